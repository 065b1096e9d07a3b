-- Parents and children: there is one such pair of sets, and without a critical link from the first part it is that part alone and nothing.
-- Assumes nothing.
use mathlib.Core.Path.{◌≡◌, ap, ◌∙◌}
use mathlib.Core.Logic.{◌≢◌, ⊎_elim}
use Prim.Native.Nat.{ℕ, ◌≤◌, ◌<◌}
use native.Mathlib.Omega.{arith}
use lib.Dec.{lit<}
use Rattle.base.proofs.Cases.{lt_or_le}
use Rattle.marks.specs.Marks.{bit, one_of, remove_of}
use Rattle.marks.proofs.Bits.{bit_lt, bit_or_not, bit_without, bit_one_same, one_fits, mark_below, remove_same, remove_other, same_marks}
use Rattle.board.specs.declared.Board.{Board}
use Rattle.budget.specs.declared.Budget.{Budget}
use Rattle.kin.specs.declared.Rows.{Rows}
use Rattle.kin.specs.declared.Kin.{Kin}
use Rattle.kin.specs.Critical.{Critical, CriticalRows}
use Rattle.kin.specs.Kin.{Within, Closed, KinOf}
use Rattle.kin.specs.Steps.{Led, Grown}
use Rattle.kin.proofs.SetLaws.{none_in, one_in}

-- ---- two results that the contract allows are equal
pub kin_same : (j k : Kin) → j.parents ≡ k.parents → j.children ≡ k.children → j ≡ k
kin_same j k p c = ap (λ (n : ℕ). record { parents = n; children = j.children }) p ∙ ap (λ (n : ℕ). record { parents = k.parents; children = n }) c

-- what is left where n was taken out
removed : (s n m : ℕ) → bit (remove_of s n) m ≡ 1 → bit s m ≡ 1
unfolding remove_of
removed s n m h = omega (arith, bit_without s (one_of n) m, bit_lt s m)

-- a set within itself less n has no n
gone : (s n : ℕ) → n < 64 → Within s (remove_of s n) → bit s n ≡ 0
gone s n h within = ⊎_elim (λ g. absurd (omega (arith, within n g, remove_same s n h))) (λ g. g) (bit_or_not s n)

module _ (Leads : ℕ → ℕ → Type 0) (first : ℕ) where
  -- the first part alone is within the parents
  first_in : (s t : ℕ) → Closed Leads first s t → Within (one_of first) s
  first_in s t c n h =
      let e : first ≡ n = one_in first n h in
      rw (← e) (c.begin (omega (arith, mark_below (one_of first) n (one_fits first) h)))

  pub kin_once : (j k : Kin) → KinOf Leads first j → KinOf Leads first k → j ≡ k
  kin_once j k x y =
      kin_same j k
      (same_marks j.parents k.parents x.parents_fit y.parents_fit (x.least_parents k.parents k.children y.closed) (y.least_parents j.parents j.children x.closed))
      (same_marks j.children k.children x.children_fit y.children_fit (x.least_children k.parents k.children y.closed) (y.least_children j.parents j.children x.closed))

  -- "Without a critical link from it, the child set is empty."
  module _ (none : (q : ℕ) → Leads first q → ⊥) where
    alone : Closed Leads first (one_of first) 0
    alone = record {
      begin = bit_one_same first;
      child = λ r q h l. absurd (none q (rw (one_in first r h) l));
      parent = λ r q h l. absurd (none_in q h);
    }

    pub no_link_no_child : (k : Kin) → KinOf Leads first k → k.children ≡ 0
    no_link_no_child k x = same_marks k.children 0 x.children_fit (lit< tt) (x.least_children (one_of first) 0 alone) (λ n h. absurd (none_in n h))

    pub no_link_no_parent : (k : Kin) → KinOf Leads first k → k.parents ≡ one_of first
    no_link_no_parent k x =
        same_marks k.parents (one_of first) x.parents_fit (one_fits first) (x.least_parents (one_of first) 0 alone)
        (first_in k.parents k.children x.closed)

  -- ---- and no others: a child has a critical link from a parent, and a parent but the first has one to a child
  module _ (k : Kin) (x : KinOf Leads first k) where
    pub no_parent_no_child : (q : ℕ) → q < 64 → ((r : ℕ) → bit k.parents r ≡ 1 → Leads r q → ⊥) → bit k.children q ≡ 0
    no_parent_no_child q part none =
        let without : Closed Leads first k.parents (remove_of k.children q) = record {
          begin = x.closed.begin;
          child = λ r n h l. remove_other k.children q n (λ e. none r h (rw e l)) ∙ x.closed.child r n h l;
          parent = λ r n h l. x.closed.parent r n (removed k.children q n h) l;
        } in
        gone k.children q part (x.least_children k.parents (remove_of k.children q) without)

    pub no_child_no_parent : (r : ℕ) → r < 64 → r ≢ first → ((q : ℕ) → bit k.children q ≡ 1 → Leads r q → ⊥) → bit k.parents r ≡ 0
    no_child_no_parent r part ne none =
        let without : Closed Leads first (remove_of k.parents r) k.children = record {
          begin = λ h. remove_other k.parents r first ne ∙ x.closed.begin h;
          child = λ n q h l. x.closed.child n q (removed k.parents r n h) l;
          parent = λ n q h l. remove_other k.parents r n (λ e. none q h (rw e l)) ∙ x.closed.parent n q h l;
        } in
        gone k.parents r part (x.least_parents (remove_of k.parents r) k.children without)

    -- what critical links join is below m, and so is all kin of a part below m
    module _ (m : ℕ) (part : first < m) (below : (r q : ℕ) → Leads r q → (r < m) × (q < m)) where
      pub parents_below : (n : ℕ) → bit k.parents n ≡ 1 → n < m
      parents_below n h =
          ⊎_elim
          (λ l. l)
          (λ past. absurd (omega (arith, no_child_no_parent n (mark_below k.parents n x.parents_fit h) (λ e. omega arith) (λ q g l. omega (arith, (below n q l).0)))))
          (lt_or_le n m)

      pub children_below : (n : ℕ) → bit k.children n ≡ 1 → n < m
      children_below n h =
          ⊎_elim
          (λ l. l)
          (λ past. absurd (omega (arith, no_parent_no_child n (mark_below k.children n x.children_fit h) (λ r g l. omega (arith, (below r n l).1)))))
          (lt_or_le n m)

  -- a first part of 64 or more has no kin
  pub kin_past : 64 ≤ first → (k : Kin) → KinOf Leads first k → k ≡ record { parents = 0; children = 0 }
  kin_past past k x =
      let nothing : Closed Leads first 0 0 = record { begin = λ h. absurd (omega arith); child = λ r q h l. absurd (none_in r h); parent = λ r q h l. absurd (none_in q h) } in
      kin_once k (record { parents = 0; children = 0 }) x
      (record {
        parents_fit = lit< tt;
        children_fit = lit< tt;
        closed = nothing;
        least_parents = λ s t c n h. absurd (none_in n h);
        least_children = λ s t c n h. absurd (none_in n h);
      })

-- ---- `kin_of`: what grows from the first part alone over the critical links
module _ (b : Board) (held : Budget) (p o : ℕ) (t : Rows) (k : Kin) (rows : CriticalRows b held t) (one : o ≡ one_of p) where
  pub kin_so : (Led t.up 0 o → Grown t o 0 k) → KinOf (Critical b held) p k
  kin_so grown =
      let g : Grown t o 0 k = grown (λ r q h l. absurd (none_in r h)) in
      let down : (s u : ℕ) → Closed (Critical b held) p s u → Led t.down s u = λ s u c r q h l. c.child r q h ((rows.down r).marked q l) in
      let back : (s u : ℕ) → Closed (Critical b held) p s u → Led t.up u s = λ s u c q r h l. c.parent r q h ((rows.up q).marked r l) in
      let first : (s u : ℕ) → Closed (Critical b held) p s u → Within o s = λ s u c. rw one (first_in (Critical b held) p s u c) in
      record {
        parents_fit = g.parents_fit;
        children_fit = g.children_fit;
        closed = record {
          begin = λ h. g.parents_in p (rw one (bit_one_same p h));
          child = λ r q h l. g.down r q h ((rows.down r).all q l);
          parent = λ r q h l. g.up q r h ((rows.up q).all r l);
        };
        least_parents = λ s u c. g.least_parents s u (first s u c) (λ n h. absurd (none_in n h)) (down s u c) (back s u c);
        least_children = λ s u c. g.least_children s u (first s u c) (λ n h. absurd (none_in n h)) (down s u c) (back s u c);
      }
