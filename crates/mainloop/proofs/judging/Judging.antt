-- One arc: the run that a tick lies in, and what each way out of `judge` gives.
-- Assumes nothing.
use mathlib.Core.Path.{◌≡◌, refl, ap}
use Prim.Native.Nat.{ℕ, suc, min, ◌+◌, ◌*◌, ◌-◌, ◌≤◌, ◌<◌}
use native.Mathlib.Omega.{arith}
use native.Mathlib.Decide.{dec_lt}
use native.Mathlib.Numerals.{add-one}
use mir.Syntax.{w32}
use mir.Val.{Fits}
use lib.ListN.{length}
use Rattle.theory.specs.Sum.{sum, cells}
use Rattle.theory.proofs.SumLaws.{sum_mono}
use Rattle.theory.proofs.RunLaws.{tick_run}
use Rattle.nets.specs.declared.Net.{Net}
use Rattle.nets.specs.Network.{length_at, saving_at, gain_of}
use Rattle.nets.proofs.Gains.{gain_past, flat}
use Rattle.nets.specs.Sheet.{gain_in, BendsIn}
use Rattle.mainloop.specs.Judging.{RunAt, Judged, Judged.found, Judged.shut}
use Rattle.mainloop.specs.declared.judging.Sight.TheVariants.{Label as Labelled, Slack}
use Rattle.nets.specs.Judge.{Calm, Leads, Leads.on, Leads.back, Open}
use Rattle.nets.specs.declared.Arc.{Arc}
use Rattle.mainloop.specs.declared.judging.Run.{Run}

-- ---- runs
pub run_begins : (net : Net) (a : ℕ) → 0 ≡ sum 0 (length_at net.length a)
unfolding sum
run_begins net a = refl

module _ (net : Net) (a j : ℕ) (c : BendsIn net a) (room : length net.length ≡ 256) (far : j < 1048576) where
  pub run_flat : 64 ≤ a → RunAt (gain_in net a) j (record { begin = 0; end = 1048576; saving = 0 })
  run_flat h = record {
    begins = omega arith;
    ends = far;
    saves = λ i l m. gain_past net.length net.saving a i (omega (arith, flat net.length net.saving a room h));
  }

  module _ (h : a < 64) (i begin : ℕ) (is : begin ≡ sum i (length_at net.length a)) (l : begin ≤ j) where
    pub run_past : 4 ≤ i → i ≤ 4 → RunAt (gain_in net a) j (record { begin = begin; end = 1048576; saving = 0 })
    run_past m n =
        let f : i ≡ 4 = omega arith in
        record {
          begins = l;
          ends = far;
          saves = λ k p q. gain_past net.length net.saving a k (omega (arith, ap (λ y. sum y (length_at net.length a)) f));
        }

    module _ (m : i < 4) where
      upto : begin + cells net.length (4 * a + i) ≡ sum (suc i) (length_at net.length a)
      unfolding sum
      upto = omega (arith, is)

      pub run_fits : Fits w32 (begin + cells net.length (4 * a + i))
      run_fits = omega (arith, upto, c.slowest h, sum_mono (length_at net.length a) (suc i) 4 (omega arith))

      pub run_more : begin + cells net.length (4 * a + i) ≡ sum (i + 1) (length_at net.length a)
      run_more = rw (add-one i) upto

      pub run_found : (end : ℕ) → end ≡ begin + cells net.length (4 * a + i) → j < end → RunAt (gain_in net a) j (record { begin = begin; end = end; saving = cells net.saving (4 * a + i) })
      unfolding gain_of
      run_found end e k = record {
        begins = l;
        ends = k;
        saves = λ y p q. tick_run (length_at net.length a) (saving_at net.saving a) 4 i y m (omega (arith, is)) (omega (arith, upto));
      }

-- ---- the ways of `judge`
module _ (g : ℕ → ℕ) (k : Arc) (a : ℕ) where
  leads : (v d : ℕ) → Leads g k v d → 0 < d → Judged g k a (Labelled (record { arc = a; node = v; room = d }))
  leads v d p l = found refl l p

  shuts : (s : ℕ) → Open g k s → 0 < s → Judged g k a (Slack s)
  shuts s o l = shut l o

  pub judge_none : k.behind ≡ 0 → k.ahead ≡ 0 → Judged g k a (Slack 1048576)
  judge_none e f = shuts 1048576 (record { into = λ z w. absurd (omega arith); out = λ z w. absurd (omega arith) }) (omega arith)

  pub judge_both : (k.behind ≡ 0 → ⊥) → (k.ahead ≡ 0 → ⊥) → Judged g k a (Slack 1048576)
  judge_both e f = shuts 1048576 (record { into = λ z w. absurd (omega arith); out = λ z w. absurd (omega arith) }) (omega arith)

  module _ (c : Calm g k) where
    -- the last tick that is used
    module _ (e : k.behind ≡ 0) (f : 0 < k.ahead) where
      pub rise_short : k.ticks ≡ 0 → Judged g k a (Labelled (record { arc = a; node = k.tail; room = k.ahead }))
      rise_short z = leads k.tail k.ahead (on refl e (omega arith) (record { used = λ j l. absurd (omega arith) })) f

      module _ (z : k.ticks ≡ 0 → ⊥) (n : Run) (at : RunAt g (k.ticks - 1) n) where
        saves_last : g (k.ticks - 1) ≡ n.saving
        saves_last = at.saves (k.ticks - 1) at.begins at.ends

        pub rise_more : k.load < n.saving → (d : ℕ) → d ≡ min k.ahead (n.saving - k.load) → Judged g k a (Labelled (record { arc = a; node = k.tail; room = d }))
        rise_more l d m =
            leads k.tail d (on refl e (omega arith) (record { used = λ j h. omega (arith, saves_last, c.falls j (k.ticks - 1) (omega arith)) })) (omega arith)

        pub rise_shrinks : n.saving ≤ k.load → Judged g k a (Slack (k.ticks - n.begin))
        rise_shrinks l =
            shuts (k.ticks - n.begin)
            (record {
              into = λ y w. record {
                within = omega arith;
                unused = λ j h. omega (arith, at.saves n.begin (omega arith) (omega (arith, at.begins, at.ends)), c.falls n.begin j (omega (arith, at.begins)));
              };
              out = λ y w. absurd (omega arith);
            }) (omega (arith, at.begins))

    -- the next tick
    module _ (e : 0 < k.behind) (f : k.ahead ≡ 0) (n : Run) (at : RunAt g k.ticks n) where
      saves_next : g k.ticks ≡ n.saving
      saves_next = at.saves k.ticks at.begins at.ends

      pub fall_less : n.saving < k.load → (d : ℕ) → d ≡ min k.behind (k.load - n.saving) → Judged g k a (Labelled (record { arc = a; node = k.head; room = d }))
      fall_less l d m =
          leads k.head d (back refl f (omega arith) (record { unused = λ j h. omega (arith, saves_next, c.falls k.ticks j h) })) (omega arith)

      pub fall_stretches : k.load ≤ n.saving → Judged g k a (Slack (n.end - k.ticks))
      fall_stretches l =
          shuts (n.end - k.ticks)
          (record {
            into = λ y w. absurd (omega arith);
            out = λ y w. record {
              used = λ j h. elim (dec_lt j k.ticks) [
                | yes i ↦ c.suits.used j i
                | no i ↦ omega (arith, at.saves j (omega (arith, at.begins)) (omega (arith, at.ends)))
              ];
            };
          }) (omega (arith, at.ends))
