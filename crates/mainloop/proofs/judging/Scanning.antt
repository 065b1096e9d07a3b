-- The loop of `scan`: arc by arc.
-- Assumes nothing.
use mathlib.Core.Path.{◌≡◌}
use lib.ListN.{length}
use Prim.Native.Nat.{ℕ, min, ◌+◌, ◌≤◌, ◌<◌}
use native.Mathlib.Omega.{arith}
use Rattle.theory.proofs.SumLaws.{below_suc}
use Rattle.nets.specs.declared.Net.{Net}
use Rattle.nets.specs.declared.Work.{Work}
use Rattle.nets.specs.Sheet.{gain_in, BendsIn, ReadyIn, arc_within, Here}
use Rattle.nets.specs.Judge.{Calm, Open}
use Rattle.mainloop.specs.Judging.{Judged, Judged.found, Judged.shut, OpenIn, ScanningIn, ScannedIn}
use Rattle.nets.specs.declared.Arc.{Arc}
use Rattle.mainloop.specs.declared.judging.Label.{Label}
use Rattle.mainloop.specs.declared.judging.Sight.{Sight}
use Rattle.mainloop.specs.declared.judging.Sight.TheVariants.{Label as Labelled, Slack}
use Rattle.mainloop.proofs.Places.{here, bends, calm}

open_less : (g : ℕ → ℕ) (k : Arc) {d e : ℕ} → e ≤ d → Open g k d → Open g k e
open_less g k l o = record {
  into = λ z w. record { within = omega (arith, (o.into z w).within); unused = λ j h. (o.into z w).unused j (omega arith) };
  out = λ z w. record { used = λ j h. (o.out z w).used j (omega arith) };
}

module _ (net : Net) (w : Work) (most : ℕ) where
  pub scan_begins : 0 < most → ScanningIn net w most 0 most
  scan_begins l = record { within = omega arith; some = l; opens = λ a h. absurd (omega arith) }

  pub scan_ends : (a slack : ℕ) → a ≤ net.arcs → net.arcs ≤ a → ScanningIn net w most a slack → ScannedIn net w most (Slack slack)
  scan_ends a slack l h c = let f : a ≡ net.arcs = omega arith in rw f at c

  module _ (r : ReadyIn net w) (a : ℕ) (h : a < net.arcs) where
    pub scan_here : Here net w a
    scan_here = here net w r a h

    pub scan_bends : BendsIn net a
    scan_bends = bends net w r a h

    module _ (k : Arc) (is : k ≡ arc_within net w a) where
      pub scan_calm : length net.length ≡ 256 → Calm (gain_in net a) k
      scan_calm room = calm net w r a h room k is

      found_in : (l : Label) → Judged (gain_in net a) k a (Labelled l) → ScannedIn net w most (Labelled l)
      found_in l (found e s p) = record { arc = omega (arith, e); some = s; leads = rw (e, ← is) p }

      pub scan_found : (s : Sight) (l : Label) → Judged (gain_in net a) k a s → s ≡ Labelled l → ScannedIn net w most (Labelled l)
      scan_found s l j e = found_in l (rw e at j)

  more_in : (a slack d m : ℕ) (k : Arc) → ScanningIn net w most a slack → k ≡ arc_within net w a → m ≡ min slack d → Judged (gain_in net a) k a (Slack d) →
      ScanningIn net w most (a + 1) m
  more_in a slack d m k c is e (shut s o) = record {
    within = omega (arith, c.within);
    some = omega (arith, c.some);
    opens = λ b l.
        below_suc {P = λ b. OpenIn net w b m} (λ b q. open_less (gain_in net b) (arc_within net w b) {d = slack} {e = m} (omega arith) (c.opens b q))
        (rw is at (open_less (gain_in net a) k {d = d} {e = m} (omega arith) o)) b (omega arith);
  }

  pub scan_more : (a slack d m : ℕ) (k : Arc) (s : Sight) → ScanningIn net w most a slack → k ≡ arc_within net w a → Judged (gain_in net a) k a s → s ≡ Slack d →
      m ≡ min slack d → ScanningIn net w most (a + 1) m
  scan_more a slack d m k s c is j e n = more_in a slack d m k c is n (rw e at j)
