-- The runs of a curve: what is known of runs that were read, and that runs written are read back.
-- Assumes nothing.
use mathlib.Core.Path.{◌≡◌, refl, sym, ap, ◌∙◌}
use mathlib.Core.Bool.{true}
use mathlib.Core.Logic.{⊎_elim, ◌≢◌}
use mathlib.Core.List.{List, [], ◌++◌}
use Prim.Native.Nat.{ℕ, zero, suc, ◌+◌, ◌-◌, ◌≤◌, ◌<◌}
use native.Mathlib.Omega.{arith}
use native.Mathlib.Nat.{add-zero}
use lib.ListN.{length, set, length-set, get_or-replicate}
use lib.Seq.{get_or-set_same, get_or-set_other}
use borrow.Author.Tests.{ltb-true, lt-ltb, ne_eqb}
use Rattle.base.specs.Pick.{pick}
use Rattle.base.proofs.Cases.{lt_or_le}
use Rattle.theory.proofs.SumLaws.{below_suc}
use Rattle.groups.specs.Number.{encode}
use Rattle.groups.proofs.RoundTrip.{Bytes}
use Rattle.curve.specs.declared.Run.{Run}
use Rattle.curve.specs.declared.Curve.{Curve}
use Rattle.curve.specs.Curve.{no_run, run_at, length_at, saving_at, Good}
use Rattle.groups.specs.Parse.{got}
use Rattle.fields.specs.Parse.{and_then, repeat, field_at}
use Rattle.fields.specs.CurveFile.{bare, with_run, falls, run_from, runs_bytes}
use Rattle.fields.specs.Writing.{in_row}
use Rattle.fields.proofs.ParseLaws.{then_got, pick_passed, got_same, repeat_keeps, field_got}
use Rattle.fields.proofs.Stands.{Stands, stands_none, stands_first, stands_then, stands_join, field_reads_back, field_stands, field_next}
use Rattle.fields.proofs.Filling.{Filling, filling_none, filling_more}

-- ---- a curve with one run more
abbrev run_of : ℕ → ℕ → Run
run_of long saving = record { length = record { 0 = long }; saving = record { 0 = saving } }

module _ (c : Curve) (k long saving : ℕ) where
  run_kept : (i : ℕ) → i ≢ k → run_at (with_run c k long saving) i ≡ run_at c i
  run_kept i other = get_or-set_other c.runs k i (run_of long saving) no_run other

  run_new : k < length c.runs → run_at (with_run c k long saving) k ≡ run_of long saving
  run_new h = get_or-set_same c.runs k (run_of long saving) no_run h

-- a run that falls is below the run before it
falls_below : (c : Curve) (i saving : ℕ) → falls c (suc i) saving ≡ true → saving < saving_at c i
unfolding falls pick
falls_below c i saving h =
    let later = ne_eqb (suc i) 0 (λ z. omega arith) in
    let back : suc i - 1 ≡ i = omega arith in
    ltb-true saving (saving_at c i) (rw (later, back) at h)

falls_first : (c : Curve) (saving : ℕ) → falls c 0 saving ≡ true
unfolding falls pick
falls_first c saving = refl

below_falls : (c : Curve) (i saving : ℕ) → saving < saving_at c i → falls c (suc i) saving ≡ true
unfolding falls pick
below_falls c i saving h =
    let later = ne_eqb (suc i) 0 (λ z. omega arith) in
    let back : suc i - 1 ≡ i = omega arith in
    rw (later, back, lt-ltb _ _ h)

runs_same : (a b : Curve) (k : ℕ) → ((i : ℕ) → i < k → run_at a i ≡ run_at b i) → runs_bytes a k ≡ runs_bytes b k
unfolding runs_bytes in_row length_at saving_at
runs_same a b zero h = refl
runs_same a b (suc k) h =
    let same = h k (omega arith) in
    let long : length_at a k ≡ length_at b k = ap (λ (r : Run). r.length.0) same in
    let saving : saving_at a k ≡ saving_at b k = ap (λ (r : Run). r.saving.0) same in
    rw (runs_same a b k (λ i l. h i (omega arith)), long, saving)

-- ---- the first k runs are as 01 asks, and the other places are blank
pub record RunsGood (fastest power count k : ℕ) (c : Curve) : Type 0 where
  pub fastest_is : c.fastest.0 ≡ fastest
  pub power_is : c.power.0 ≡ power
  pub count_is : c.count ≡ count
  pub length_from : (i : ℕ) → i < k → 1 ≤ length_at c i
  pub length_to : (i : ℕ) → i < k → length_at c i ≤ 255
  pub saving_from : (i : ℕ) → i < k → 1 ≤ saving_at c i
  pub saving_to : (i : ℕ) → i < k → saving_at c i ≤ 1000
  pub falling : (i : ℕ) → suc i < k → saving_at c (suc i) < saving_at c i
  pub blank : (i : ℕ) → k ≤ i → i < 4 → run_at c i ≡ no_run
  pub room : length c.runs ≡ 4

none_good : (fastest power count : ℕ) → RunsGood fastest power count 0 (bare fastest power count)
unfolding bare
none_good fastest power count = record {
  fastest_is = refl;
  power_is = refl;
  count_is = refl;
  length_from = λ i h. absurd (omega arith);
  length_to = λ i h. absurd (omega arith);
  saving_from = λ i h. absurd (omega arith);
  saving_to = λ i h. absurd (omega arith);
  falling = λ i h. absurd (omega arith);
  blank = λ i h l. get_or-replicate 4 i no_run no_run l;
  room = refl;
}

module _ (fastest power count k : ℕ) (c : Curve) (few : k < 4) (good : RunsGood fastest power count k c)
    (long saving : ℕ) (longs : (1 ≤ long) × (long ≤ 255)) (savings : (1 ≤ saving) × (saving ≤ 1000)) (fell : falls c k saving ≡ true) where
  abbrev more : Curve
  more = with_run c k long saving

  kept : (i : ℕ) → i < k → run_at more i ≡ run_at c i
  kept i h = run_kept c k long saving i (λ same. omega arith)

  new : run_at more k ≡ run_of long saving
  new = run_new c k long saving (omega (arith, good.room))

  each : (P : Run → Type 0) → ((i : ℕ) → i < k → P (run_at c i)) → P (run_of long saving) → (i : ℕ) → i < suc k → P (run_at more i)
  each P before last = below_suc (λ i h. rw (kept i h) (before i h)) (rw new last)

  saves : {a b : Run} → a ≡ b → a.saving.0 ≡ b.saving.0
  saves same = ap (λ (r : Run). r.saving.0) same

  more_falls : (i : ℕ) → suc i < suc k → saving_at more (suc i) < saving_at more i
  unfolding saving_at
  more_falls i h = ⊎_elim
      (λ (l : suc i < k). omega (arith, saves (kept (suc i) l), saves (kept i (omega arith)), good.falling i l))
      (λ (l : k ≤ suc i).
      let last : k ≡ suc i = omega arith in
      let under : saving < saving_at c i = falls_below c i saving (rw last at fell) in
      let here : run_at more (suc i) ≡ run_of long saving = rw (← last) new in
      omega (arith, saves here, saves (kept i (omega arith)), under))
      (lt_or_le (suc i) k)

  more_good : RunsGood fastest power count (suc k) more
  unfolding length_at saving_at
  more_good = record {
    fastest_is = good.fastest_is;
    power_is = good.power_is;
    count_is = good.count_is;
    length_from = each (λ r. 1 ≤ r.length.0) good.length_from longs.0;
    length_to = each (λ r. r.length.0 ≤ 255) good.length_to longs.1;
    saving_from = each (λ r. 1 ≤ r.saving.0) good.saving_from savings.0;
    saving_to = each (λ r. r.saving.0 ≤ 1000) good.saving_to savings.1;
    falling = more_falls;
    blank = λ i h l. run_kept c k long saving i (λ same. omega arith) ∙ good.blank i (omega arith) l;
    room = length-set c.runs k (run_of long saving) ∙ good.room;
  }

  more_bytes : runs_bytes more (suc k) ≡ runs_bytes c k ++ (encode long ++ encode saving)
  unfolding runs_bytes in_row length_at saving_at
  more_bytes =
      let is-long : length_at more k ≡ long = ap (λ (r : Run). r.length.0) new in
      let is-saving : saving_at more k ≡ saving = ap (λ (r : Run). r.saving.0) new in
      rw (runs_same more c k kept, is-long, is-saving)

-- ---- runs that were read, whatever stands around them
pub record RunsRead (s : List ℕ) (fastest power count at k : ℕ) (c : Curve) (n : ℕ) : Type 0 where
  pub good : RunsGood fastest power count k c
  pub stands : Bytes s → Stands s at (runs_bytes c k) n
  pub from : at ≤ n
  pub within : at ≤ length s → n ≤ length s

module _ (s : List ℕ) (fastest power count at : ℕ) where
  none_read : RunsRead s fastest power count at 0 (bare fastest power count) at
  unfolding runs_bytes in_row length_at saving_at
  none_read = record { good = none_good fastest power count; stands = λ bytes. stands_none s at; from = omega arith; within = λ h. h }

  more_read : (k : ℕ) (c : Curve) (m long m₁ saving n : ℕ) → k < 4 → RunsRead s fastest power count at k c m → field_at s 1 255 m ≡ got long m₁ → field_at s 1 1000 m₁ ≡ got saving n → falls c k saving ≡ true → RunsRead s fastest power count at (suc k) (with_run c k long saving) n
  more_read k c m long m₁ saving n few before is-long is-saving fell =
      let longs = field_got s 1 255 m long m₁ is-long in
      let savings = field_got s 1 1000 m₁ saving n is-saving in
      let long-next = field_next s 1 255 m long m₁ is-long in
      let saving-next = field_next s 1 1000 m₁ saving n is-saving in
      record {
        good = more_good fastest power count k c few before.good long saving (longs.from, longs.to) (savings.from, savings.to) fell;
        stands = λ bytes. rw (more_bytes fastest power count k c few before.good long saving (longs.from, longs.to) (savings.from, savings.to) fell)
            (stands_join (before.stands bytes) (stands_join (field_stands s 1 255 m long m₁ bytes is-long) (field_stands s 1 1000 m₁ saving n bytes is-saving)));
        from = omega (arith, before.from, long-next.0, saving-next.0);
        within = λ h. saving-next.1;
      }

  run_read : (k : ℕ) (c : Curve) (m : ℕ) (d : Curve) (n : ℕ) → k < 4 → RunsRead s fastest power count at k c m → run_from s k c m ≡ got d n → RunsRead s fastest power count at (suc k) d n
  unfolding run_from
  run_read k c m d n few before is =
      let l = then_got _ _ d n is in
      let v = then_got _ _ d n l.rest in
      let t = pick_passed _ _ _ d n v.rest in
      got_same (RunsRead s fastest power count at (suc k)) _ d _ n t.is (more_read k c m l.value l.place v.value v.place few before l.first v.first t.holds)

  pub runs_read : (c : Curve) (n : ℕ) → count ≤ 4 → repeat (run_from s) (bare fastest power count) at count ≡ got c n → RunsRead s fastest power count at count c n
  runs_read c n few is = repeat_keeps (run_from s) (bare fastest power count) at 4 (RunsRead s fastest power count at) none_read run_read count few c n is

-- ---- runs that were written are read back
pub record RunsBack (s : List ℕ) (c : Curve) (at k n : ℕ) : Type 0 where
  pub runs : List Run
  pub read : repeat (run_from s) (bare c.fastest.0 c.power.0 c.count) at k ≡ got (record { fastest = c.fastest; power = c.power; count = c.count; runs = runs }) n
  pub filling : Filling no_run no_run 4 k c.runs runs

module _ (s : List ℕ) (c : Curve) (good : Good c) where
  abbrev filled : List Run → Curve
  filled runs = record { fastest = c.fastest; power = c.power; count = c.count; runs = runs }

  still_falls : (k : ℕ) (runs : List Run) → k < c.count → Filling no_run no_run 4 k c.runs runs → falls (filled runs) k (saving_at c k) ≡ true
  unfolding saving_at
  still_falls zero runs h f = falls_first (filled runs) (saving_at c 0)
  still_falls (suc k) runs h f = below_falls (filled runs) k (saving_at c (suc k)) (rw (f.front k (omega arith)) (good.falls k h))

  back_none : (at n : ℕ) → Stands s at [] n → RunsBack s c at 0 n
  unfolding repeat bare
  back_none at n x = record {
    runs = (bare c.fastest.0 c.power.0 c.count).runs;
    read = let same : at ≡ n = sym (x.ends ∙ add-zero at) in rw same;
    filling = filling_none no_run no_run 4 c.runs;
  }

  back_more : (at k m n : ℕ) → k < c.count → RunsBack s c at k m → Stands s m (encode (length_at c k) ++ encode (saving_at c k)) n → RunsBack s c at (suc k) n
  unfolding repeat run_from and_then pick length_at saving_at
  back_more at k m n h before x =
      let long = stands_first (encode (length_at c k)) (encode (saving_at c k)) x in
      let saving = stands_then (encode (length_at c k)) (encode (saving_at c k)) x in
      record {
        runs = set before.runs k (run_at c k);
        read = rw (
          before.read,
          field_reads_back 1 255 (length_at c k) (omega arith) (good.length_from k h) (good.length_to k h) long,
          field_reads_back 1 1000 (saving_at c k) (omega arith) (good.saving_from k h) (good.saving_to k h) saving,
          still_falls k before.runs h before.filling,
        );
        filling = filling_more no_run no_run 4 c.runs k before.runs (omega (arith, good.count_to)) before.filling;
      }

  pub runs_back : (at k n : ℕ) → k ≤ c.count → Stands s at (runs_bytes c k) n → RunsBack s c at k n
  unfolding runs_bytes in_row length_at saving_at
  runs_back at zero n h x = back_none at n x
  runs_back at (suc k) n h x =
      let w = encode (length_at c k) ++ encode (saving_at c k) in
      back_more at k (at + length (runs_bytes c k)) n (omega arith) (runs_back at k (at + length (runs_bytes c k)) (omega arith) (stands_first (runs_bytes c k) w x)) (stands_then (runs_bytes c k) w x)
