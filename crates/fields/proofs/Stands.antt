-- Bytes that stand at a place of an input: one device for the round trips of numbers, runs, curves, links and whole files.
-- Assumes nothing.
use mathlib.Core.Path.{◌≡◌, refl, sym, ap, ◌∙◌}
use mathlib.Core.List.{List, [], ◌∷◌, ◌++◌, append_assoc}
use Prim.Native.Nat.{ℕ, ◌+◌, ◌-◌, ◌≤◌, ◌<◌}
use native.Mathlib.Omega.{arith}
use native.Mathlib.Nat.{add-zero}
use lib.ListN.{length, drop, length-append, take-append-drop}
use lib.Seq.{drop-drop, drop-append_seam}
use Rattle.groups.specs.Number.{limit, number_at, encode}
use Rattle.groups.proofs.RoundTrip.{reads_at, writes_back, number_next, number_ends_at, Bytes}
use Rattle.groups.specs.Parse.{got}
use Rattle.fields.specs.Parse.{field_at}
use Rattle.fields.proofs.ParseLaws.{field_got, field_reads}

-- the bytes w stand at a place of s, and end at `next`
pub record Stands (s : List ℕ) (at : ℕ) (w : List ℕ) (next : ℕ) : Type 0 where
  pub after : List ℕ
  pub here : drop at s ≡ w ++ after
  pub ends : next ≡ at + length w

pub stands_none : (s : List ℕ) (at : ℕ) → Stands s at [] at
stands_none s at = record { after = drop at s; here = refl; ends = sym (add-zero at) }

pub stands_first : {s : List ℕ} {at : ℕ} (v : List ℕ) (w : List ℕ) {n : ℕ} → Stands s at (v ++ w) n → Stands s at v (at + length v)
stands_first v w x = record { after = w ++ x.after; here = x.here ∙ append_assoc v w x.after; ends = refl }

pub stands_then : {s : List ℕ} {at : ℕ} (v : List ℕ) (w : List ℕ) {n : ℕ} → Stands s at (v ++ w) n → Stands s (at + length v) w n
stands_then {s} {at} v w x =
    record {
      after = x.after;
      here = sym (drop-drop (length v) at s) ∙ ap (drop (length v)) (x.here ∙ append_assoc v w x.after) ∙ drop-append_seam v (w ++ x.after);
      ends = x.ends ∙ ap (λ (l : ℕ). at + l) (length-append v w) ∙ omega arith;
    }

pub stands_join : {s : List ℕ} {at : ℕ} {v : List ℕ} {m : ℕ} {w : List ℕ} {n : ℕ} → Stands s at v m → Stands s m w n → Stands s at (v ++ w) n
stands_join {s} {at} {v} {m} {w} {n} x y =
    let seam : x.after ≡ w ++ y.after = sym (sym (drop-drop (length v) at s) ∙ ap (drop (length v)) x.here ∙ drop-append_seam v x.after) ∙ ap (λ (i : ℕ). drop i s) (sym x.ends) ∙ y.here in
    record {
      after = y.after;
      here = x.here ∙ ap (λ (l : List ℕ). v ++ l) seam ∙ sym (append_assoc v w y.after);
      ends = omega (arith, x.ends, y.ends, length-append v w);
    }

no_more : (l : List ℕ) → length l ≡ 0 → l ≡ []
no_more [] h = refl
no_more (a ∷ l) h = absurd (omega arith)

append_none : (l : List ℕ) → l ++ [] ≡ l
append_none [] = refl
append_none (a ∷ l) = ap (λ (r : List ℕ). a ∷ r) (append_none l)

-- bytes stand at their own front, and bytes that end where the input does are all of it
pub stands_front : (w : List ℕ) → Stands w 0 w (length w)
stands_front w = record { after = []; here = sym (append_none w); ends = omega arith }

pub stands_whole : (s w : List ℕ) → Stands s 0 w (length s) → w ≡ s
stands_whole s w x =
    let none : x.after ≡ [] = no_more x.after (omega (arith, x.ends, ap length x.here, length-append w x.after)) in
    sym (append_none w) ∙ ap (λ (l : List ℕ). w ++ l) (sym none) ∙ sym x.here

-- ---- numbers
pub number_reads : {s : List ℕ} {at : ℕ} (v : ℕ) {n : ℕ} → v < limit → Stands s at (encode v) n → number_at s at ≡ got v n
number_reads {s} {at} v {n} less x = reads_at s x.after at v less x.here ∙ ap (λ (i : ℕ). got v i) (sym x.ends)

pub number_stands : (s : List ℕ) (at v n : ℕ) → Bytes s → number_at s at ≡ got v n → Stands s at (encode v) n
number_stands s at v n bytes is =
    record {
      after = drop (n - at) (drop at s);
      here = sym (take-append-drop (n - at) (drop at s)) ∙ ap (λ (l : List ℕ). l ++ drop (n - at) (drop at s)) (writes_back s at v n bytes is);
      ends = number_ends_at s at v n bytes is;
    }

-- a field
pub field_reads_back : {s : List ℕ} {at : ℕ} (low high v : ℕ) {n : ℕ} → high < limit → low ≤ v → v ≤ high → Stands s at (encode v) n → field_at s low high at ≡ got v n
field_reads_back {s} {at} low high v {n} most from to x = field_reads s low high at v n (number_reads v (omega arith) x) from to

pub field_stands : (s : List ℕ) (low high at v n : ℕ) → Bytes s → field_at s low high at ≡ got v n → Stands s at (encode v) n
field_stands s low high at v n bytes is = number_stands s at v n bytes (field_got s low high at v n is).read

pub field_next : (s : List ℕ) (low high at v n : ℕ) → field_at s low high at ≡ got v n → (at < n) × (n ≤ length s)
field_next s low high at v n is = let known = number_next s at v n (field_got s low high at v n is).read in (known.0, known.1)
