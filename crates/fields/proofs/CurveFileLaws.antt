-- A curve as bytes: what is read is a good curve, a good curve written is read back, and what is read is rewritten byte for byte.
-- Assumes nothing.
use mathlib.Core.Path.{◌≡◌, ap, ◌∙◌}
use mathlib.Core.List.{List, [], ◌++◌}
use Prim.Native.Nat.{ℕ, ◌+◌, ◌≤◌, ◌<◌}
use native.Mathlib.Omega.{arith}
use mathlib.Core.Logic.{⊎_elim}
use lib.ListN.{length, length-append}
use borrow.Author.Tests.{leb-true, le-leb, lt-leb}
use Rattle.base.specs.Pick.{pick}
use Rattle.base.proofs.Cases.{lt_or_le}
use Rattle.groups.specs.Number.{groups, encode}
use Rattle.groups.proofs.Forms.{size_1, size_2, size_le}
use Rattle.groups.proofs.RoundTrip.{Bytes}
use Rattle.curve.specs.declared.Run.{Run}
use Rattle.curve.specs.declared.Curve.{Curve}
use Rattle.curve.specs.Curve.{power_max, no_run, run_at, length_at, saving_at, savings_of, Good}
use Rattle.groups.specs.Parse.{got}
use Rattle.fields.specs.Parse.{and_then, field_at}
use Rattle.fields.specs.CurveFile.{runs_from, curve_from, run_bytes, runs_bytes, numbers_of, curve_bytes}
use Rattle.fields.proofs.ParseLaws.{then_got, pick_passed, got_same, field_got}
use Rattle.fields.proofs.Stands.{Stands, stands_first, stands_then, stands_join, field_reads_back, field_stands, field_next}
use Rattle.fields.proofs.WritingLaws.{row_size}
use Rattle.fields.proofs.Filling.{filling_all}
use Rattle.fields.proofs.RunLaws.{RunsRead, runs_read, runs_back}

-- ---- a curve that was read, field by field
pub record CurveTold (s : List ℕ) (at : ℕ) (c : Curve) (next : ℕ) : Type 0 where
  pub at₁ : ℕ
  pub at₂ : ℕ
  pub at₃ : ℕ
  pub fastest : field_at s 1 1023 at ≡ got c.fastest.0 at₁
  pub power : field_at s 0 power_max at₁ ≡ got c.power.0 at₂
  pub count : field_at s 0 4 at₂ ≡ got c.count at₃
  pub runs : RunsRead s c.fastest.0 c.power.0 c.count at₃ c.count c next
  pub affords : savings_of c ≤ c.power.0

same_numbers : (s : List ℕ) (at next : ℕ) (c : Curve) (f f' p p' n n' : ℕ) → f' ≡ f → p' ≡ p → n' ≡ n → RunsRead s f p n at n c next → RunsRead s f' p' n' at n' c next
same_numbers s at next c f f' p p' n n' fastest power count r = rw (fastest, power, count) r

told : (s : List ℕ) (at : ℕ) (c : Curve) (next fastest power count at₁ at₂ at₃ : ℕ) →
    field_at s 1 1023 at ≡ got fastest at₁ → field_at s 0 power_max at₁ ≡ got power at₂ → field_at s 0 4 at₂ ≡ got count at₃ →
    RunsRead s fastest power count at₃ count c next → savings_of c ≤ power → CurveTold s at c next
told s at c next fastest power count at₁ at₂ at₃ f p n r enough =
    let known = r.good in
    record {
      at₁ = at₁;
      at₂ = at₂;
      at₃ = at₃;
      fastest = rw known.fastest_is f;
      power = rw known.power_is p;
      count = rw known.count_is n;
      runs = same_numbers s at₃ next c fastest _ power _ count _ known.fastest_is known.power_is known.count_is r;
      affords = omega (arith, known.power_is, enough);
    }

pub curve_told : (s : List ℕ) (at : ℕ) (c : Curve) (next : ℕ) → curve_from s at ≡ got c next → CurveTold s at c next
unfolding curve_from runs_from
curve_told s at c next is =
    let f = then_got _ _ c next is in
    let p = then_got _ _ c next f.rest in
    let n = then_got _ _ c next p.rest in
    let r = then_got _ _ c next n.rest in
    let t = pick_passed _ _ _ c next r.rest in
    let few = (field_got s 0 4 p.place n.value n.place n.first).to in
    got_same (CurveTold s at) r.value c r.place next t.is
    (told s at r.value r.place f.value p.value n.value f.place p.place n.place f.first p.first n.first
    (runs_read s f.value p.value n.value n.place r.value r.place few r.first)
    (leb-true (savings_of r.value) p.value t.holds))

-- what is read is a good curve
pub curve_good : (s : List ℕ) (at : ℕ) (c : Curve) (next : ℕ) → curve_from s at ≡ got c next → Good c
curve_good s at c next is =
    let t = curve_told s at c next is in
    let f = field_got s 1 1023 at c.fastest.0 t.at₁ t.fastest in
    let p = field_got s 0 power_max t.at₁ c.power.0 t.at₂ t.power in
    let n = field_got s 0 4 t.at₂ c.count t.at₃ t.count in
    let r = t.runs.good in
    record {
      fastest_from = f.from;
      fastest_to = f.to;
      power_to = p.to;
      count_to = n.to;
      length_from = r.length_from;
      length_to = r.length_to;
      saving_from = r.saving_from;
      saving_to = r.saving_to;
      falls = r.falling;
      affords = t.affords;
      blank = r.blank;
      room = r.room;
    }

-- what stands for a curve
pub curve_form : (c : Curve) → c.count ≤ 4 → curve_bytes c ≡ numbers_of c
unfolding curve_bytes pick
curve_form c few = rw (le-leb _ _ few)

pub curve_no_form : (c : Curve) → 4 < c.count → curve_bytes c ≡ []
unfolding curve_bytes pick
curve_no_form c many = rw (lt-leb _ _ many)

-- what is read is rewritten byte for byte
pub curve_writes_back : (s : List ℕ) (at : ℕ) (c : Curve) (next : ℕ) → Bytes s → curve_from s at ≡ got c next → Stands s at (curve_bytes c) next
curve_writes_back s at c next bytes is =
    let t = curve_told s at c next is in
    let few = (field_got s 0 4 t.at₂ c.count t.at₃ t.count).to in
    rw (curve_form c few)
    (stands_join (field_stands s 1 1023 at c.fastest.0 t.at₁ bytes t.fastest)
    (stands_join (field_stands s 0 power_max t.at₁ c.power.0 t.at₂ bytes t.power)
    (stands_join (field_stands s 0 4 t.at₂ c.count t.at₃ bytes t.count) (t.runs.stands bytes))))

-- a curve that was read ends past its place and within the bytes
pub curve_next : (s : List ℕ) (at : ℕ) (c : Curve) (next : ℕ) → curve_from s at ≡ got c next → (at < next) × (next ≤ length s)
curve_next s at c next is =
    let t = curve_told s at c next is in
    let f = field_next s 1 1023 at c.fastest.0 t.at₁ t.fastest in
    let p = field_next s 0 power_max t.at₁ c.power.0 t.at₂ t.power in
    let n = field_next s 0 4 t.at₂ c.count t.at₃ t.count in
    (omega (arith, f.0, p.0, n.0, t.runs.from), t.runs.within n.1)

-- ---- a good curve written is read back
curve_is : (c : Curve) (runs : List Run) → runs ≡ c.runs → ◌≡◌ {A = Curve} (record { fastest = c.fastest; power = c.power; count = c.count; runs = runs }) c
curve_is c runs same = rw same

pub curve_reads_back : (s : List ℕ) (at : ℕ) (c : Curve) (next : ℕ) → Good c → Stands s at (curve_bytes c) next → curve_from s at ≡ got c next
unfolding curve_from runs_from and_then pick
curve_reads_back s at c next good x =
    let f = encode c.fastest.0 in
    let p = encode c.power.0 in
    let n = encode c.count in
    let r = runs_bytes c c.count in
    let x₀ : Stands s at (f ++ (p ++ (n ++ r))) next = rw (curve_form c good.count_to) at x in
    let x₁ = stands_then f (p ++ (n ++ r)) x₀ in
    let x₂ = stands_then p (n ++ r) x₁ in
    let back = runs_back s c good _ c.count next (omega arith) (stands_then n r x₂) in
    let all : back.runs ≡ c.runs = filling_all no_run no_run 4 c.runs c.count back.runs back.filling good.room good.blank in
    let read = back.read ∙ ap (λ (d : Curve). got d next) (curve_is c back.runs all) in
    rw (
      field_reads_back 1 1023 c.fastest.0 (omega arith) good.fastest_from good.fastest_to (stands_first f (p ++ (n ++ r)) x₀),
      field_reads_back 0 power_max c.power.0 (omega arith) (omega arith) good.power_to (stands_first p (n ++ r) x₁),
      field_reads_back 0 4 c.count (omega arith) (omega arith) good.count_to (stands_first n r x₂),
      read,
      le-leb _ _ good.affords,
    )

-- ---- sizes: fastest at most 2 bytes, power as many as a number has, run count 1, and each run 4
pub size_to_1 : (n : ℕ) → n < 128 → length (encode n) ≤ 1
size_to_1 n small = omega (arith, size_1 n small)

pub size_to_2 : (n : ℕ) → n < 16384 → length (encode n) ≤ 2
size_to_2 n small = ⊎_elim (λ (h : n < 128). omega (arith, size_1 n h)) (λ (h : 128 ≤ n). omega (arith, size_2 n h small)) (lt_or_le n 128)

module _ (c : Curve) (good : Good c) where
  run_size : (i : ℕ) → i < c.count → length (run_bytes (run_at c i)) ≤ 4
  unfolding length_at saving_at
  run_size i h =
      let long = good.length_to i h in
      let saving = good.saving_to i h in
      omega (arith, length-append (encode (length_at c i)) (encode (saving_at c i)), size_to_2 (length_at c i) (omega arith), size_to_2 (saving_at c i) (omega arith))

  runs_size : length (runs_bytes c c.count) ≤ 16
  unfolding runs_bytes
  runs_size = omega (arith, row_size (λ i. run_bytes (run_at c i)) 4 c.count run_size, good.count_to)

  pub curve_size_le : length (curve_bytes c) ≤ 19 + groups
  curve_size_le =
      let p = encode c.power.0 in
      let n = encode c.count in
      let r = runs_bytes c c.count in
      let few = good.count_to in
      let fast = good.fastest_to in
      rw (curve_form c few) (omega (
        arith,
        length-append (encode c.fastest.0) (p ++ (n ++ r)),
        length-append p (n ++ r),
        length-append n r,
        size_to_2 c.fastest.0 (omega arith),
        size_le c.power.0,
        size_to_1 c.count (omega arith),
        runs_size,
      ))
