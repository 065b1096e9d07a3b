-- Another deadline and another curve: the board stays well formed, and nothing else changes.
-- Assumes nothing.
use mathlib.Core.Path.{◌≡◌, refl, ◌∙◌}
use mathlib.Core.Logic.{⊎_elim, ◌≢◌}
use Prim.Native.Nat.{ℕ, ◌≤◌, ◌<◌}
use native.Mathlib.Omega.{arith}
use lib.ListN.{length, length-set}
use lib.Seq.{get_or-set_same, get_or-set_other}
use borrow.Author.Tests.{lt-ltb}
use Rattle.base.specs.Pick.{pick}
use Rattle.base.proofs.Cases.{eq_or_ne}
use Rattle.curve.specs.declared.Ticks.{Ticks}
use Rattle.curve.specs.declared.Curve.{Curve}
use Rattle.curve.specs.Curve.{Good}
use Rattle.board.specs.declared.Board.{Board}
use Rattle.board.specs.Board.{WellFormed, curve_at, no_curve}
use Rattle.edits.specs.Edits.{with_deadline_of, with_curve_of}
use Rattle.edits.specs.Changes.{CurveChanged, DeadlineChanged}

module _ (b : Board) (w : WellFormed b) (d : Ticks) where
  pub with_deadline_well : 1 ≤ d.0 → d.0 ≤ 4095 → WellFormed (with_deadline_of b d)
  unfolding with_deadline_of
  with_deadline_well low high = record {
    deadline_from = low;
    deadline_to = high;
    parts_from = w.parts_from;
    parts_to = w.parts_to;
    curves = w.curves;
    links_to = w.links_to;
    from_in = w.from_in;
    to_in = w.to_in;
    apart = w.apart;
    plain = w.plain;
    ascends = w.ascends;
    blank_curves = w.blank_curves;
    blank_links = w.blank_links;
    curve_room = w.curve_room;
    link_room = w.link_room;
  }

pub with_deadline_changed : (b : Board) (d : Ticks) → DeadlineChanged b (with_deadline_of b d) d
unfolding with_deadline_of
with_deadline_changed b d = record { rule = refl; deadline = refl; parts = refl; curve = refl; links = refl; link = refl }

-- ---- a curve at its place
module _ (b : Board) (p : ℕ) (c : Curve) (part : p < b.parts) (few : b.parts ≤ 64) (long : length b.curve ≡ 64) where
  pub curve_here : curve_at (with_curve_of b p c) p ≡ c
  unfolding with_curve_of pick
  curve_here = rw (lt-ltb _ _ part) (get_or-set_same b.curve p c no_curve (rw long (omega arith)))

  pub curve_elsewhere : (q : ℕ) → q ≢ p → curve_at (with_curve_of b p c) q ≡ curve_at b q
  unfolding with_curve_of pick
  curve_elsewhere q ne = rw (lt-ltb _ _ part) (get_or-set_other b.curve p q c no_curve ne)

  pub curve_room : length (with_curve_of b p c).curve ≡ 64
  unfolding with_curve_of pick
  curve_room = rw (lt-ltb _ _ part) (length-set b.curve p c ∙ long)

module _ (b : Board) (w : WellFormed b) (p : ℕ) (c : Curve) (part : p < b.parts) where
  pub with_curve_changed : CurveChanged b (with_curve_of b p c) p c
  unfolding with_curve_of
  with_curve_changed = record {
    rule = refl;
    deadline = refl;
    parts = refl;
    here = curve_here b p c part w.parts_to w.curve_room;
    elsewhere = curve_elsewhere b p c part w.parts_to w.curve_room;
    links = refl;
    link = refl;
  }

  each_curve : Good c → (q : ℕ) → q < b.parts → Good (curve_at (with_curve_of b p c) q)
  each_curve good q h = ⊎_elim
      (λ (e : q ≡ p). rw (e, with_curve_changed.here) good)
      (λ (e : q ≡ p → ⊥). rw (with_curve_changed.elsewhere q e) (w.curves q h))
      (eq_or_ne q p)

  pub with_curve_well : Good c → WellFormed (with_curve_of b p c)
  unfolding with_curve_of
  with_curve_well good = record {
    deadline_from = w.deadline_from;
    deadline_to = w.deadline_to;
    parts_from = w.parts_from;
    parts_to = w.parts_to;
    curves = each_curve good;
    links_to = w.links_to;
    from_in = w.from_in;
    to_in = w.to_in;
    apart = w.apart;
    plain = w.plain;
    ascends = w.ascends;
    blank_curves = λ q h r. with_curve_changed.elsewhere q (λ e. omega arith) ∙ w.blank_curves q h r;
    blank_links = w.blank_links;
    curve_room = curve_room b p c part w.parts_to w.curve_room;
    link_room = w.link_room;
  }
