-- Two edits at different places end in the same board, in whatever order they are made. Edits of links end in the same links, so `same_board` has
-- it; all others touch different fields.
-- Assumes nothing.
use mathlib.Core.Path.{◌≡◌, refl, sym, ap, subst, ◌∙◌}
use mathlib.Core.Logic.{⊎_elim, ◌≢◌}
use mathlib.Core.Bool.{Bool, true, false}
use mathlib.Core.List.{List}
use Prim.Native.Nat.{ℕ}
use lib.Dec.{ltb}
use lib.ListN.{get_or, set}
use lib.Seq.{set_comm}
use Rattle.base.specs.Pick.{pick}
use Rattle.curve.specs.declared.Ticks.{Ticks}
use Rattle.curve.specs.declared.Curve.{Curve}
use Rattle.board.specs.declared.Link.{Link}
use Rattle.board.specs.declared.Board.{Board}
use Rattle.board.specs.Board.{WellFormed, Linked, Has, plain_link, no_curve}
use Rattle.board.proofs.SameBoard.{Alike, same_board, whole_linked}
use Rattle.edits.specs.Edits.{count_before, place_of, some, same_ends, has_link_of, addable, with_deadline_of, with_curve_of, with_link_of, without_link_of}
use Rattle.edits.specs.Changes.{Ends, Addable, LinksOnly, LinkAdded, LinkRemoved}
use Rattle.edits.proofs.LinkEdits.{with_link_well, with_link_added, without_link_well, without_link_removed}

-- ---- two links
-- two boards that keep all but the links of a third are alike where their links are
alike : (b c d : Board) → LinksOnly b c → LinksOnly b d → ((x : Link) → Has c x → Has d x) → ((x : Link) → Has d x → Has c x) → Alike c d
alike b c d u v to from = record {
  rule = u.rule ∙ sym v.rule;
  deadline = u.deadline ∙ sym v.deadline;
  parts = u.parts ∙ sym v.parts;
  curves = λ p h. ap (λ (l : List Curve). get_or l p no_curve) (u.curve ∙ sym v.curve);
  links = to;
  links_back = from;
}

onward : (b c d : Board) → LinksOnly b c → LinksOnly c d → LinksOnly b d
onward b c d u v = record { rule = v.rule ∙ u.rule; deadline = v.deadline ∙ u.deadline; parts = v.parts ∙ u.parts; curve = v.curve ∙ u.curve }

-- a link with given ends that is there
ended : (b : Board) (x : Link) (from to : ℕ) → Ends x from to → Has b x → Linked b from to
ended b x from to e k = let l = whole_linked b x k in record { link = l.link; here = l.here; from = l.from ∙ e.starts; to = l.to ∙ e.ends }

-- two names of one link
named : (b : Board) (x y : Link) → x ≡ y → Has b y → Has b x
named b x y e = subst (Has b) (sym e)

ends_of : (from to : ℕ) (x : Link) → x ≡ plain_link from to → Ends x from to
ends_of from to x e = record { starts = ap (λ (l : Link). l.from) e; ends = ap (λ (l : Link). l.to) e }

-- what is in one of two is in the other
two_added : (b c c' d d' : Board) (f t g u : ℕ) → LinkAdded b c f t → LinkAdded c d g u → LinkAdded b c' g u → LinkAdded c' d' f t
    → (x : Link) → Has d x → Has d' x
two_added b c c' d d' f t g u bc cd bc' cd' x k = ⊎_elim
    (λ (h : Has c x). ⊎_elim
    (λ (l : Has b x). cd'.kept x (bc'.kept x l))
    (λ (e : x ≡ plain_link f t). named d' x (plain_link f t) e cd'.new)
    (bc.only x h))
    (λ (e : x ≡ plain_link g u). cd'.kept x (named c' x (plain_link g u) e bc'.new))
    (cd.only x k)

module _ (b : Board) (w : WellFormed b) (f t g u : ℕ) where
  pub add_add : Addable b f t → Addable (with_link_of b f t) g u → Addable b g u → Addable (with_link_of b g u) f t
      → with_link_of (with_link_of b f t) g u ≡ with_link_of (with_link_of b g u) f t
  add_add a a₂ c c₂ =
      let wa = with_link_well b w f t a in
      let wc = with_link_well b w g u c in
      let la = with_link_added b w f t a in
      let lc = with_link_added b w g u c in
      let la₂ = with_link_added (with_link_of b f t) wa g u a₂ in
      let lc₂ = with_link_added (with_link_of b g u) wc f t c₂ in
      same_board _ _ (with_link_well (with_link_of b f t) wa g u a₂) (with_link_well (with_link_of b g u) wc f t c₂)
      (alike b _ _ (onward b _ _ la.rest la₂.rest) (onward b _ _ lc.rest lc₂.rest) (two_added b _ _ _ _ f t g u la la₂ lc lc₂) (two_added b _ _ _ _ g u f t lc lc₂ la la₂))

-- one added, one removed
mixed : (b c c' d d' : Board) (f t g u : ℕ) → LinkAdded b c f t → LinkRemoved c d g u → LinkRemoved b c' g u → LinkAdded c' d' f t
    → (x : Link) → Has d x → Has d' x
mixed b c c' d d' f t g u bc cd bc' cd' x k = ⊎_elim
    (λ (l : Has b x). cd'.kept x (bc'.kept x l (λ e. cd.gone (ended d x g u e k))))
    (λ (e : x ≡ plain_link f t). named d' x (plain_link f t) e cd'.new)
    (bc.only x (cd.only x k))

mixed_back : (b c c' d d' : Board) (f t g u : ℕ) → (Ends (plain_link f t) g u → ⊥) → LinkAdded b c f t → LinkRemoved c d g u → LinkRemoved b c' g u → LinkAdded c' d' f t
    → (x : Link) → Has d' x → Has d x
mixed_back b c c' d d' f t g u ne bc cd bc' cd' x k = ⊎_elim
    (λ (l : Has c' x). cd.kept x (bc.kept x (bc'.only x l)) (λ e. bc'.gone (ended c' x g u e l)))
    (λ (e : x ≡ plain_link f t). named d x (plain_link f t) e (cd.kept (plain_link f t) bc.new ne))
    (cd'.only x k)

module _ (b : Board) (w : WellFormed b) (f t g u : ℕ) where
  pub add_remove : Addable b f t → Linked (with_link_of b f t) g u → Linked b g u → Addable (without_link_of b g u) f t
      → without_link_of (with_link_of b f t) g u ≡ with_link_of (without_link_of b g u) f t
  add_remove a r there c =
      let wa = with_link_well b w f t a in
      let wr = without_link_well b w g u there in
      let la = with_link_added b w f t a in
      let lr = without_link_removed b w g u there in
      let la₂ = without_link_removed (with_link_of b f t) wa g u r in
      let lr₂ = with_link_added (without_link_of b g u) wr f t c in
      same_board _ _ (without_link_well (with_link_of b f t) wa g u r) (with_link_well (without_link_of b g u) wr f t c)
      (alike b _ _ (onward b _ _ la.rest la₂.rest) (onward b _ _ lr.rest lr₂.rest) (mixed b _ _ _ _ f t g u la la₂ lr lr₂)
      (mixed_back b _ _ _ _ f t g u (λ e. a.missing (turned e)) la la₂ lr lr₂))
    where
      turned : Ends (plain_link f t) g u → Linked b f t
      turned e = record { link = there.link; here = there.here; from = there.from ∙ sym e.starts; to = there.to ∙ sym e.ends }

-- a link added and removed again leaves the board as it was
module _ (b : Board) (w : WellFormed b) (f t : ℕ) (a : Addable b f t) where
  pub add_then_remove : without_link_of (with_link_of b f t) f t ≡ b
  add_then_remove =
      let wa = with_link_well b w f t a in
      let la = with_link_added b w f t a in
      let there = whole_linked (with_link_of b f t) (plain_link f t) la.new in
      let lr = without_link_removed (with_link_of b f t) wa f t there in
      same_board _ b (without_link_well (with_link_of b f t) wa f t there) w
      (alike b _ b (onward b _ _ la.rest lr.rest) (record { rule = refl; deadline = refl; parts = refl; curve = refl })
      (λ x k. ⊎_elim
      (λ (l : Has b x). l)
      (λ (e : x ≡ plain_link f t). absurd (lr.gone (ended _ x f t (ends_of f t x e) k)))
      (la.only x (lr.only x k)))
      (λ x k. lr.kept x (la.kept x k) (λ e. a.missing (ended b x f t e k))))

-- both removed
two_removed : (b c c' d d' : Board) (f t g u : ℕ) → LinkRemoved b c f t → LinkRemoved c d g u → LinkRemoved b c' g u → LinkRemoved c' d' f t
    → (x : Link) → Has d x → Has d' x
two_removed b c c' d d' f t g u bc cd bc' cd' x k =
    let l = cd.only x k in
    cd'.kept x (bc'.kept x (bc.only x l) (λ e. cd.gone (ended d x g u e k))) (λ e. bc.gone (ended c x f t e l))

module _ (b : Board) (w : WellFormed b) (f t g u : ℕ) where
  pub remove_remove : Linked b f t → Linked (without_link_of b f t) g u → Linked b g u → Linked (without_link_of b g u) f t
      → without_link_of (without_link_of b f t) g u ≡ without_link_of (without_link_of b g u) f t
  remove_remove a a₂ c c₂ =
      let wa = without_link_well b w f t a in
      let wc = without_link_well b w g u c in
      let la = without_link_removed b w f t a in
      let lc = without_link_removed b w g u c in
      let la₂ = without_link_removed (without_link_of b f t) wa g u a₂ in
      let lc₂ = without_link_removed (without_link_of b g u) wc f t c₂ in
      same_board _ _ (without_link_well (without_link_of b f t) wa g u a₂) (without_link_well (without_link_of b g u) wc f t c₂)
      (alike b _ _ (onward b _ _ la.rest la₂.rest) (onward b _ _ lc.rest lc₂.rest) (two_removed b _ _ _ _ f t g u la la₂ lc lc₂) (two_removed b _ _ _ _ g u f t lc lc₂ la la₂))

-- ---- other fields: of any board
module _ (b : Board) (d : Ticks) where
  pub deadline_curve : (p : ℕ) (c : Curve) → with_curve_of (with_deadline_of b d) p c ≡ with_deadline_of (with_curve_of b p c) d
  unfolding with_curve_of with_deadline_of
  deadline_curve p c = refl

  pub deadline_add : (f t : ℕ) → with_link_of (with_deadline_of b d) f t ≡ with_deadline_of (with_link_of b f t) d
  unfolding with_link_of with_deadline_of addable has_link_of same_ends some place_of count_before
  deadline_add f t = refl

  pub deadline_remove : (f t : ℕ) → without_link_of (with_deadline_of b d) f t ≡ with_deadline_of (without_link_of b f t) d
  unfolding without_link_of with_deadline_of has_link_of same_ends some place_of count_before
  deadline_remove f t = refl

module _ (b : Board) (p : ℕ) (c : Curve) where
  pub curve_add : (f t : ℕ) → with_link_of (with_curve_of b p c) f t ≡ with_curve_of (with_link_of b f t) p c
  unfolding with_link_of with_curve_of addable has_link_of same_ends some place_of count_before
  curve_add f t = refl

  pub curve_remove : (f t : ℕ) → without_link_of (with_curve_of b p c) f t ≡ with_curve_of (without_link_of b f t) p c
  unfolding without_link_of with_curve_of has_link_of same_ends some place_of count_before
  curve_remove f t = refl

-- two curves of different parts
sets_differ : (l : List Curve) (p q : ℕ) (c e : Curve) → p ≢ q → (s t : Bool)
    → pick t (set (pick s (set l p c) l) q e) (pick s (set l p c) l) ≡ pick s (set (pick t (set l q e) l) p c) (pick t (set l q e) l)
unfolding pick
sets_differ l p q c e ne true true = set_comm l p q c e ne
sets_differ l p q c e ne true false = refl
sets_differ l p q c e ne false true = refl
sets_differ l p q c e ne false false = refl

pub curve_curve : (b : Board) (p q : ℕ) (c e : Curve) → p ≢ q → with_curve_of (with_curve_of b p c) q e ≡ with_curve_of (with_curve_of b q e) p c
unfolding with_curve_of
curve_curve b p q c e ne =
    ap (λ (l : List Curve). record { rule = b.rule; deadline = b.deadline; parts = b.parts; curve = l; links = b.links; link = b.link })
    (sets_differ b.curve p q c e ne (ltb p b.parts) (ltb q b.parts))
