-- The order of links, and that the tests of a board's links say what `WellFormed` asks of them.
-- Assumes nothing.
use mathlib.Core.Path.{◌≡◌, refl, sym, ◌∙◌}
use mathlib.Core.Logic.{⊎_elim, ◌≢◌}
use mathlib.Core.Bool.{Bool, true, false, ◌&&◌}
use Prim.Native.Nat.{ℕ, zero, suc, ◌-◌, ◌≤◌, ◌<◌}
use native.Mathlib.Omega.{arith}
use lib.Dec.{eqb}
use borrow.Author.Tests.{lt-ltb, le-ltb, lt-leb, ne_eqb, ltb-false, leb-false, eqb-true, eqb-false}
use Rattle.base.specs.Pick.{pick}
use Rattle.base.proofs.Cases.{lt_or_le}
use Rattle.curve.specs.Tests.{both}
use Rattle.curve.proofs.GoodLaws.{every_at, every_all}
use Rattle.board.specs.declared.Link.{Link}
use Rattle.board.specs.declared.Board.{Board}
use Rattle.board.specs.Board.{WellFormed, link_at, no_link, delay_of, order}
use Rattle.board.specs.Tests.{below_of, link_held, same_link, link_good, link_test, links_test}

-- ---- tests
pub clash : {A : Type 0} → false ≡ true → A
clash e = let z : ◌≡◌ {A = ℕ} 0 1 = cc in absurd (omega arith)

-- a test that refuses where the first test holds
pub passed : (t u : Bool) → pick t false u ≡ true → (t ≡ false) × (u ≡ true)
unfolding pick
passed true u e = clash e
passed false u e = (refl, e)

pub both_hold : (t u : Bool) → both t u ≡ true → (t ≡ true) × (u ≡ true)
unfolding pick
both_hold true u e = (refl, e)
both_hold false u e = clash e

-- ---- two links are one where their ends and delays are
made : (f g t u d e : ℕ) → f ≡ g → t ≡ u → d ≡ e
    → ◌≡◌ {A = Link} (record { from = f; to = t; delay = record { 0 = d } }) (record { from = g; to = u; delay = record { 0 = e } })
made f g t u d e from to delay = rw (from, to, delay)

pub link_same : (a x : Link) → a.from ≡ x.from → a.to ≡ x.to → a.delay.0 ≡ x.delay.0 → a ≡ x
link_same a x f t d = made a.from x.from a.to x.to a.delay.0 x.delay.0 f t d

-- links at one place in the order have the same ends
pub order_ends : (a x : Link) → a.to < 64 → x.to < 64 → order a ≡ order x → (a.from ≡ x.from) × (a.to ≡ x.to)
order_ends a x h l e = (omega arith, omega arith)

-- ---- the order
module _ (a x : Link) (h : a.to < 64) (l : x.to < 64) where
  pub below_one : order a < order x → below_of a x ≡ true
  unfolding below_of pick
  below_one s = ⊎_elim (λ (f : a.from < x.from). rw (lt-ltb _ _ f)) (λ (f : x.from ≤ a.from). let g : a.from ≤ x.from = omega arith in let k : a.to < x.to = omega arith in rw (le-ltb _ _ f, le-ltb _ _ g, lt-ltb _ _ k)) (lt_or_le a.from x.from)

  pub below_none : order x ≤ order a → below_of a x ≡ false
  unfolding below_of pick
  below_none s = let f : x.from ≤ a.from = omega arith in ⊎_elim (λ (g : x.from < a.from). rw (le-ltb _ _ f, lt-ltb _ _ g)) (λ (g : a.from ≤ x.from). let k : x.to ≤ a.to = omega arith in rw (le-ltb _ _ f, le-ltb _ _ g, le-ltb _ _ k)) (lt_or_le x.from a.from)

  pub below_order : below_of a x ≡ true → order a < order x
  below_order e = ⊎_elim (λ (s : order a < order x). s) (λ (s : order x ≤ order a). clash (sym (below_none s) ∙ e)) (lt_or_le (order a) (order x))

-- ---- what the test of a link says
pub record LinkHeld (b : Board) (l : ℕ) : Type 0 where
  pub from_in : (link_at b l).from < b.parts
  pub to_in : (link_at b l).to < b.parts
  pub apart : (link_at b l).from ≢ (link_at b l).to
  pub plain : delay_of (link_at b l) ≡ 0
  pub above : pick (eqb l 0) true (below_of (link_at b (l - 1)) (link_at b l)) ≡ true

pub held_passed : (b : Board) (l : ℕ) → link_held b.parts l (link_at b (l - 1)) (link_at b l) ≡ true → LinkHeld b l
unfolding link_held delay_of
held_passed b l e =
    let p = passed _ _ e in
    let q = passed _ _ p.1 in
    let r = passed _ _ q.1 in
    let s = passed _ _ r.1 in
    record {
      from_in = leb-false _ _ p.0;
      to_in = leb-false _ _ q.0;
      apart = eqb-false _ _ r.0;
      plain = omega (arith, ltb-false 0 (link_at b l).delay.0 s.0);
      above = s.1;
    }

-- the derived test of two links
pub and_true : (t u : Bool) → (t && u) ≡ true → (t ≡ true) × (u ≡ true)
and_true true u e = (refl, e)
and_true false u e = clash e

pub blank_passed : (x : Link) → same_link x no_link ≡ true → x ≡ no_link
blank_passed x e =
    let p = and_true _ _ e in
    let q = and_true _ _ p.1 in
    link_same x no_link (eqb-true _ _ p.0) (eqb-true _ _ q.0) (eqb-true _ _ q.1)

later : (l : ℕ) → eqb (suc l) 0 ≡ false
later l = ne_eqb (suc l) 0 (λ e. omega arith)

one_less : (l : ℕ) → suc l - 1 ≡ l
one_less l = omega arith

module _ (b : Board) (few : b.parts ≤ 64) (good : links_test b ≡ true) where
  pub held_of : (l : ℕ) → l < b.links → l < 256 → LinkHeld b l
  unfolding links_test link_test link_good pick
  held_of l h r = held_passed b l (rw (lt-ltb l b.links h) at (every_at (link_test b) 256 good l r))

  pub blank_of : (l : ℕ) → b.links ≤ l → l < 256 → link_at b l ≡ no_link
  unfolding links_test link_test link_good pick
  blank_of l h r = blank_passed (link_at b l) (rw (le-ltb l b.links h) at (every_at (link_test b) 256 good l r))

  pub ascends_of : (l : ℕ) → suc l < b.links → suc l < 256 → order (link_at b l) < order (link_at b (suc l))
  unfolding pick
  ascends_of l h r =
      let x = held_of (suc l) h r in
      let a = held_of l (omega arith) (omega arith) in
      below_order (link_at b l) (link_at b (suc l)) (omega (arith, a.to_in)) (omega (arith, x.to_in)) (rw (later l, one_less l) at x.above)

-- ---- and the links of a well formed board pass it
module _ (b : Board) (w : WellFormed b) where
  held_passes : (l : ℕ) → l < b.links → link_held b.parts l (link_at b (l - 1)) (link_at b l) ≡ true
  unfolding link_held delay_of pick
  held_passes zero h = rw (lt-leb _ _ (w.from_in 0 h), lt-leb _ _ (w.to_in 0 h), ne_eqb _ _ (w.apart 0 h), w.plain 0 h)
  held_passes (suc l) h =
      let s = suc l in
      let one = below_one (link_at b l) (link_at b s) (omega (arith, w.to_in l (omega arith), w.parts_to)) (omega (arith, w.to_in s h, w.parts_to)) (w.ascends l h) in
      rw (lt-leb _ _ (w.from_in s h), lt-leb _ _ (w.to_in s h), ne_eqb _ _ (w.apart s h), w.plain s h, later l, one_less l, one)

  link_passes : (l : ℕ) → l < 256 → link_test b l ≡ true
  unfolding link_test link_good pick
  link_passes l r = ⊎_elim (λ (h : l < b.links). rw (lt-ltb _ _ h) (held_passes l h)) (λ (h : b.links ≤ l). rw (le-ltb _ _ h, w.blank_links l h r)) (lt_or_le l b.links)

  pub links_pass : links_test b ≡ true
  unfolding links_test
  links_pass = every_all (link_test b) 256 link_passes
