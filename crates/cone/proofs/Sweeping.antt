-- A sweep marks exactly what can be reached. What it holds at every step (`Sound`): what is visited or to be visited can be reached, what was
-- marked at first is one of these, and so is every part that a visited part's row marks. Each step visits a part more, so 64 steps visit all.
-- Assumes nothing.
use Rattle.std.proofs.Common.{refl, ◌≡◌, ℕ, zero, suc, ◌+◌, ◌-◌, ◌^◌, ◌<◌, ◌≤◌, max, ◌⊎◌, List, get_or, sym, ap, ◌∙◌, inl, inr, ⊎_elim, arith, lit<}
use lib.Count.{ones}
use Rattle.base.proofs.Cases.{eq_or_ne}
use Rattle.marks.specs.Marks.{bit, insert_of, union_of, without_of, lowest_of}
use Rattle.marks.proofs.Bits.{bit_lt, bit_none, bit_or_not, bit_union, bit_without, insert_same, insert_other, insert_fits, union_fits, without_fits}
use Rattle.marks.proofs.Counts.{ones_to, ones_insert, lowest_is, lowest_below, lowest_past}
use Rattle.std.specs.Prelude.{Option, Some, None}
use Rattle.cone.specs.declared.Sweep.{Sweep}
use Rattle.cone.specs.Sweeps.{visited_of, step_of, sweep_up_to, reached_of}

-- part q is marked at first, or the row of a part that can be reached marks it
pub data Reached (rows : List ℕ) (from : ℕ) : ℕ → Type 0 where
  start : {q : ℕ} → bit from q ≡ 1 → Reached rows from q
  step : {p q : ℕ} → Reached rows from p → bit (get_or rows p 0) q ≡ 1 → Reached rows from q

module _ (rows : List ℕ) (from : ℕ) (rows_fit : (p : ℕ) → get_or rows p 0 < 2 ^ 64) (from_fits : from < 2 ^ 64) where
  record Sound (s : Sweep) : Type 0 where
    pub done_fits : s.done < 2 ^ 64
    pub todo_fits : s.todo < 2 ^ 64
    pub apart : (q : ℕ) → bit s.todo q ≡ 1 → bit s.done q ≡ 0
    pub starts : (q : ℕ) → bit from q ≡ 1 → 1 ≤ bit s.done q + bit s.todo q
    pub reached : (q : ℕ) → 1 ≤ bit s.done q + bit s.todo q → Reached rows from q
    pub onward : (p q : ℕ) → bit s.done p ≡ 1 → bit (get_or rows p 0) q ≡ 1 → 1 ≤ bit s.done q + bit s.todo q

  sound_first : Sound (record { done = 0; todo = from })
  sound_first =
      record {
        done_fits = lit< tt;
        todo_fits = from_fits;
        apart = λ q h. bit_none q;
        starts = λ q h. omega arith;
        reached = λ q h. start {q = q} (omega (arith, bit_none q, bit_lt from q));
        onward = λ p q h g. absurd (omega (arith, bit_none p));
      }

  -- ---- a step that visits part p
  module _ (s : Sweep) (ok : Sound s) (p : ℕ) (next : bit s.todo p ≡ 1) (part : p < 64) where
    done : ℕ
    done = insert_of s.done p

    todo : ℕ
    todo = without_of (union_of s.todo (get_or rows p 0)) (insert_of s.done p)

    todo_bit : (q : ℕ) → bit todo q ≡ max (bit s.todo q) (bit (get_or rows p 0) q) - bit done q
    unfolding todo done
    todo_bit q = bit_without _ _ q ∙ ap (λ (x : ℕ). x - bit (insert_of s.done p) q) (bit_union s.todo (get_or rows p 0) q)

    done_grows : (q : ℕ) → bit s.done q ≤ bit done q
    unfolding done
    done_grows q = ⊎_elim (λ e. rw (← e) (omega (arith, insert_same s.done p part, bit_lt s.done p))) (λ ne. omega (arith, insert_other s.done p q ne)) (eq_or_ne p q)

    -- what was seen is seen still
    stays : (q : ℕ) → 1 ≤ bit s.done q + bit s.todo q → 1 ≤ bit done q + bit todo q
    stays q h = omega (arith, todo_bit q, done_grows q, bit_lt done q, bit_lt s.todo q, bit_lt s.done q)

    row_seen : (q : ℕ) → bit (get_or rows p 0) q ≡ 1 → 1 ≤ bit done q + bit todo q
    row_seen q h = omega (arith, todo_bit q, bit_lt done q, bit_lt s.todo q)

    -- what is visited now is p, or was visited
    done_is : (q : ℕ) → bit done q ≡ 1 → (p ≡ q) ⊎ (bit s.done q ≡ 1)
    unfolding done
    done_is q h = ⊎_elim (λ e. inl e) (λ ne. inr (sym (insert_other s.done p q ne) ∙ h)) (eq_or_ne p q)

    next_reached : Reached rows from p
    next_reached = ok.reached p (omega arith)

    seen_reached : (q : ℕ) → 1 ≤ bit done q + bit todo q → Reached rows from q
    seen_reached q h =
        ⊎_elim
        (λ d. ⊎_elim (λ e. rw (← e) next_reached) (λ was. ok.reached q (omega arith)) (done_is q d))
        (λ d. ⊎_elim
        (λ row. step next_reached row)
        (λ row. ok.reached q (omega (arith, todo_bit q, bit_lt todo q)))
        (bit_or_not (get_or rows p 0) q))
        (bit_or_not done q)

    sound_visited : Sound (record { done = done; todo = todo })
    unfolding done todo
    sound_visited =
        record {
          done_fits = insert_fits s.done p ok.done_fits;
          todo_fits = without_fits _ _ (union_fits s.todo (get_or rows p 0) ok.todo_fits (rows_fit p)) (insert_fits s.done p ok.done_fits);
          apart = λ q h. omega (arith, todo_bit q, bit_lt done q, bit_lt s.todo q, bit_lt (get_or rows p 0) q);
          starts = λ q h. stays q (ok.starts q h);
          reached = seen_reached;
          onward = λ a q d h. ⊎_elim (λ e. row_seen q (rw e h)) (λ was. stays q (ok.onward a q was h)) (done_is a d);
        }

  -- ---- all steps
  step_goes : (s : Sweep) (p : ℕ) → lowest_of s.todo ≡ Some p → step_of rows s ≡ visited_of s p (get_or rows p 0)
  unfolding step_of
  step_goes s p is = rw is

  step_stays : (s : Sweep) → lowest_of s.todo ≡ None → step_of rows s ≡ s
  unfolding step_of
  step_stays s is = rw is

  sound_next : (s : Sweep) → Sound s → (o : Option ℕ) → lowest_of s.todo ≡ o → Sound (step_of rows s)
  unfolding visited_of done todo
  sound_next s ok None is = rw (step_stays s is) ok
  sound_next s ok (Some p) is =
      rw (step_goes s p is) (sound_visited s ok p (lowest_is s.todo p is ok.todo_fits) (lowest_below s.todo p is ok.todo_fits))

  sound_step : (s : Sweep) → Sound s → Sound (step_of rows s)
  sound_step s ok = sound_next s ok (lowest_of s.todo) refl

  sound : (k : ℕ) → Sound (sweep_up_to rows from k)
  unfolding sweep_up_to
  sound zero = sound_first
  sound (suc k) = sound_step (sweep_up_to rows from k) (sound k)

  -- each step visits a part more, while there is one to visit
  visits_more : (s : Sweep) (p : ℕ) → Sound s → lowest_of s.todo ≡ Some p → ones s.done < ones (insert_of s.done p)
  visits_more s p ok is =
      ones_insert s.done p ok.done_fits (lowest_below s.todo p is ok.todo_fits) (ok.apart p (lowest_is s.todo p is ok.todo_fits))

  counts_next : (s : Sweep) (k : ℕ) → Sound s → k ≤ ones s.done → (o : Option ℕ) → lowest_of s.todo ≡ o
      → (lowest_of (step_of rows s).todo ≡ None) ⊎ (suc k ≤ ones (step_of rows s).done)
  unfolding visited_of
  counts_next s k ok c None is = inl (rw (step_stays s is) is)
  counts_next s k ok c (Some p) is = inr (rw (step_goes s p is) (omega (arith, visits_more s p ok is)))

  counts_step : (s : Sweep) (k : ℕ) → Sound s → (lowest_of s.todo ≡ None) ⊎ (k ≤ ones s.done)
      → (lowest_of (step_of rows s).todo ≡ None) ⊎ (suc k ≤ ones (step_of rows s).done)
  counts_step s k ok (inl h) = inl (rw (step_stays s h) h)
  counts_step s k ok (inr c) = counts_next s k ok c (lowest_of s.todo) refl

  counts : (k : ℕ) → (lowest_of (sweep_up_to rows from k).todo ≡ None) ⊎ (k ≤ ones (sweep_up_to rows from k).done)
  unfolding sweep_up_to
  counts zero = inr (omega arith)
  counts (suc k) = counts_step (sweep_up_to rows from k) k (sound k) (counts k)

  -- so after 64 steps there is none
  stops_at : (s : Sweep) → Sound s → 64 ≤ ones s.done → (o : Option ℕ) → lowest_of s.todo ≡ o → s.todo ≡ 0
  stops_at s ok c None is = lowest_past s.todo is
  stops_at s ok c (Some p) is =
      absurd (omega (arith, visits_more s p ok is, ones_to (insert_of s.done p) (insert_fits s.done p ok.done_fits)))

  stops : (s : Sweep) → Sound s → (lowest_of s.todo ≡ None) ⊎ (64 ≤ ones s.done) → s.todo ≡ 0
  stops s ok (inl h) = lowest_past s.todo h
  stops s ok (inr c) = stops_at s ok c (lowest_of s.todo) refl

  none_left : (q : ℕ) → bit (sweep_up_to rows from 64).todo q ≡ 0
  none_left q = rw (stops (sweep_up_to rows from 64) (sound 64) (counts 64)) (bit_none q)

  -- ---- the marks of a sweep are what can be reached
  pub reached_fits : reached_of rows from < 2 ^ 64
  unfolding reached_of
  reached_fits = (sound 64).done_fits

  pub reached_marked : (q : ℕ) → bit (reached_of rows from) q ≡ 1 → Reached rows from q
  unfolding reached_of
  reached_marked q h = (sound 64).reached q (omega arith)

  pub reached_all : (q : ℕ) → Reached rows from q → bit (reached_of rows from) q ≡ 1
  unfolding reached_of
  reached_all q (start h) = omega (arith, (sound 64).starts q h, none_left q, bit_lt (sweep_up_to rows from 64).done q)
  reached_all q (step {p = p} r h) =
      omega (arith, (sound 64).onward p q (reached_all p r) h, none_left q, bit_lt (sweep_up_to rows from 64).done q)
