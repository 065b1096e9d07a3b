-- The ways through `put` and `write_number`: what is still to be written, written from here on, gives what was asked for.
-- Assumes nothing.
use mathlib.Core.Path.{◌≡◌, refl, sym, ap, ◌∙◌}
use mathlib.Core.Bool.{Bool}
use mathlib.Core.Logic.{⊎_elim}
use mathlib.Core.List.{List, [], ◌∷◌}
use Prim.Native.Nat.{ℕ, ◌+◌, ◌-◌, ◌/◌, ◌%◌, ◌<◌, ◌≤◌}
use native.Mathlib.Omega.{arith}
use native.Mathlib.Nat.{add-zero}
use native.Mathlib.Numerals.{add-one}
use lib.ListN.{length, set, length-set}
use lib.Seq.{sets}
use borrow.Author.Tests.{le-leb, lt-leb}
use Rattle.base.specs.Pick.{pick}
use Rattle.base.proofs.Cases.{lt_or_le, pick_elim}
use Rattle.groups.specs.Number.{limit, encode, fits, written, written_to}
use Rattle.groups.proofs.Forms.{encode_none, encode_last, encode_more, size_positive}

module _ (buf₀ buf : List ℕ) (at n i rest : ℕ) where
  -- a group's place is within the buffer
  pub room : i + length (encode rest) ≡ at + length (encode n) → rest < limit → length buf ≡ length buf₀ → at + length (encode n) ≤ length buf₀ → i < length buf
  room ends less same enough = omega (arith, size_positive rest less)

  module _ (is : sets buf i (encode rest) ≡ sets buf₀ at (encode n)) where
    pub wrote_last : rest < 128 → set buf i rest ≡ sets buf₀ at (encode n)
    wrote_last small = rw (encode_last rest small) at is

    pub wrote_more : 128 ≤ rest → rest < limit → sets (set buf i (rest % 128 + 128)) (i + 1) (encode (rest / 128)) ≡ sets buf₀ at (encode n)
    wrote_more large less = rw add-one (rw (encode_more rest large less) at is)

  module _ (ends : i + length (encode rest) ≡ at + length (encode n)) where
    pub ends_last : rest < 128 → i + 1 ≡ at + length (encode n)
    ends_last small = rw (encode_last rest small) at ends

    pub ends_more : 128 ≤ rest → rest < limit → i + 1 + length (encode (rest / 128)) ≡ at + length (encode n)
    ends_more large less = omega (arith, ends, ap length (encode_more rest large less))

pub long_still : (buf buf₀ : List ℕ) (i v : ℕ) → length buf ≡ length buf₀ → length (set buf i v) ≡ length buf₀
long_still buf buf₀ i v same = rw length-set same

-- ---- the ways through `write_number`
pub record Stays (buf : List ℕ) (at n : ℕ) : Type 0 where
  pub next : at ≡ written_to buf at n
  pub holds : buf ≡ written buf at n

pub stays_next : (buf : List ℕ) (at n : ℕ) → Stays buf at n → at ≡ written_to buf at n
stays_next buf at n stays = stays.next

pub stays_holds : (buf : List ℕ) (at n : ℕ) → Stays buf at n → buf ≡ written buf at n
stays_holds buf at n stays = stays.holds

pick_same : {A : Type 0} (t : Bool) (a : A) → a ≡ pick t a a
pick_same t a = pick_elim (λ x. a ≡ x) t a a refl refl

no_bytes : (l : List ℕ) → 0 ≡ length l → l ≡ []
no_bytes [] none = refl
no_bytes (a ∷ l) none = absurd (omega arith)

module _ (buf : List ℕ) (at n k : ℕ) (is : k ≡ length (encode n)) where
  pub stays_without_form : k ≡ 0 → Stays buf at n
  unfolding written_to written fits
  stays_without_form none =
      let empty : encode n ≡ [] = no_bytes (encode n) (sym none ∙ is) in
      record { next = rw (empty, add-zero) (pick_same _ at); holds = rw empty (pick_same _ buf) }

  no_room : length buf < at + k → Stays buf at n
  unfolding written_to written fits pick
  no_room late = record { next = rw (← is, lt-leb _ _ late); holds = rw (← is, lt-leb _ _ late) }

  pub stays_too_short : length buf < k → Stays buf at n
  stays_too_short short = no_room (omega arith)

  pub stays_too_late : k ≤ length buf → length buf - k < at → Stays buf at n
  stays_too_late long late = no_room (omega arith)

  pub has_form : (k ≡ 0 → ⊥) → n < limit
  has_form some = ⊎_elim
      (λ (less : n < limit). less)
      (λ (most : limit ≤ n). absurd (some (is ∙ ap length (encode_none n most))))
      (lt_or_le n limit)

  module _ (long : k ≤ length buf) (early : at ≤ length buf - k) where
    pub has_room : at + length (encode n) ≤ length buf
    has_room = omega arith

    pub went : (r : ℕ) → r ≡ at + length (encode n) → r ≡ written_to buf at n
    unfolding written_to fits pick
    went r next = rw (le-leb _ _ has_room) next

    pub wrote : (buf' : List ℕ) → buf' ≡ sets buf at (encode n) → buf' ≡ written buf at n
    unfolding written fits pick
    wrote buf' new = rw (le-leb _ _ has_room) new

-- ---- what a caller knows of the next place: it is within the buffer where the place was
pub next_le : (buf : List ℕ) (at n : ℕ) → at ≤ length buf → written_to buf at n ≤ length buf
unfolding written_to fits pick
next_le buf at n within = ⊎_elim
    (λ (none : length buf < at + length (encode n)). rw (lt-leb _ _ none) within)
    (λ (room : at + length (encode n) ≤ length buf). rw (le-leb _ _ room) room)
    (lt_or_le (length buf) (at + length (encode n)))
