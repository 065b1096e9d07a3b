-- Writers one after the other: what one leaves and the next one leaves, left at once; room for each.
-- Assumes nothing.
use mathlib.Core.Path.{◌≡◌, refl, sym, ap, ◌∙◌}
use mathlib.Core.Logic.{⊎_elim}
use mathlib.Core.List.{List, [], ◌∷◌, ◌++◌}
use Prim.Native.Nat.{ℕ, zero, suc, ◌+◌, ◌*◌, ◌≤◌, ◌<◌}
use native.Mathlib.Omega.{arith}
use native.Mathlib.Nat.{add-zero}
use lib.ListN.{length, get_or, set, take, length-append}
use lib.Seq.{sets, length-sets, take-suc}
use Rattle.std.specs.List.{flat_map}
use Rattle.std.proofs.lemmas.List.{take_more, flat_map_more}
use borrow.Author.Tests.{le-leb, lt-leb}
use Rattle.base.specs.Pick.{pick}
use Rattle.base.proofs.Cases.{lt_or_le}
use Rattle.groups.specs.Number.{encode, fits, written, written_to}
use Rattle.fields.specs.Writing.{Wrote, WroteIfRoom, WroteOrNothing, in_row}

sets_append : (l : List ℕ) (at : ℕ) (v w : List ℕ) → sets l at (v ++ w) ≡ sets (sets l at v) (at + length v) w
sets_append l at [] w = rw add-zero
sets_append l at (a ∷ v) w =
    let shift : suc at + length v ≡ at + suc (length v) = omega arith in
    sets_append (set l at a) (suc at) v w ∙ rw shift

wrote_none : (buf : List ℕ) (at : ℕ) → Wrote buf at [] at buf
wrote_none buf at = record { ends = sym (add-zero at); holds = refl }

wrote_more :
    (buf₀ : List ℕ) (at : ℕ) (v : List ℕ) (m : ℕ) (buf : List ℕ) (w : List ℕ) (n : ℕ) (buf' : List ℕ) →
    Wrote buf₀ at v m buf → Wrote buf m w n buf' → Wrote buf₀ at (v ++ w) n buf'
wrote_more buf₀ at v m buf w n buf' one two =
    record {
      ends = omega (arith, one.ends, two.ends, length-append v w);
      holds = two.holds ∙ rw (one.holds, one.ends) (sym (sets_append buf₀ at v w));
    }

-- a writer leaves the buffer as long as it was
wrote_long : (buf : List ℕ) (at : ℕ) (w : List ℕ) (n : ℕ) (buf' : List ℕ) → Wrote buf at w n buf' → length buf' ≡ length buf
wrote_long buf at w n buf' is = rw is.holds (length-sets buf at w)

-- ---- room for two is room for the first, and then for the other
first_room : (buf : List ℕ) (at : ℕ) (v w : List ℕ) → at + length (v ++ w) ≤ length buf → at + length v ≤ length buf
first_room buf at v w room = omega (arith, length-append v w)

then_room : (buf : List ℕ) (at : ℕ) (v w : List ℕ) (m : ℕ) (buf' : List ℕ) → at + length (v ++ w) ≤ length buf → Wrote buf at v m buf' → m + length w ≤ length buf'
then_room buf at v w m buf' room is = omega (arith, length-append v w, is.ends, wrote_long buf at v m buf' is)

-- two writers one after the other, of which neither asks for room
pub room_more :
    (buf₀ : List ℕ) (at : ℕ) (v : List ℕ) (m : ℕ) (buf : List ℕ) (w : List ℕ) (n : ℕ) (buf' : List ℕ) →
    WroteIfRoom buf₀ at v m buf → WroteIfRoom buf m w n buf' → WroteIfRoom buf₀ at (v ++ w) n buf'
room_more buf₀ at v m buf w n buf' one two = record {
  wrote = λ room.
      let first = one.wrote (first_room buf₀ at v w room) in
      wrote_more buf₀ at v m buf w n buf' first (two.wrote (then_room buf₀ at v w m buf room first));
}

pub room_or_nothing : (buf : List ℕ) (at : ℕ) (w : List ℕ) (n : ℕ) (buf' : List ℕ) → WroteOrNothing buf at w n buf' → WroteIfRoom buf at w n buf'
room_or_nothing buf at w n buf' is = record { wrote = is.wrote }

pub then_wrote :
    (buf : List ℕ) (at : ℕ) (v : List ℕ) (m : ℕ) (buf₁ : List ℕ) (w : List ℕ) (n : ℕ) (buf₂ : List ℕ) →
    WroteOrNothing buf at v m buf₁ → WroteIfRoom buf₁ m w n buf₂ → WroteIfRoom buf at (v ++ w) n buf₂
then_wrote buf at v m buf₁ w n buf₂ one two = room_more buf at v m buf₁ w n buf₂ (room_or_nothing buf at v m buf₁ one) two

pub both_wrote :
    (buf : List ℕ) (at : ℕ) (v : List ℕ) (m : ℕ) (buf₁ : List ℕ) (w : List ℕ) (n : ℕ) (buf₂ : List ℕ) →
    WroteOrNothing buf at v m buf₁ → WroteOrNothing buf₁ m w n buf₂ → WroteIfRoom buf at (v ++ w) n buf₂
both_wrote buf at v m buf₁ w n buf₂ one two = then_wrote buf at v m buf₁ w n buf₂ one (room_or_nothing buf₁ m w n buf₂ two)

-- of any bytes at any place, two results of a writer are the same
pub wrote_once :
    (buf : List ℕ) (at : ℕ) (w : List ℕ) (n n' : ℕ) (buf₁ buf₂ : List ℕ) →
    WroteOrNothing buf at w n buf₁ → WroteOrNothing buf at w n' buf₂ → (n ≡ n') × (buf₁ ≡ buf₂)
wrote_once buf at w n n' buf₁ buf₂ one two = ⊎_elim
    (λ (late : length buf < at + length w).
    let a = one.nothing late in
    let b = two.nothing late in
    (a.0 ∙ sym b.0, a.1 ∙ sym b.1))
    (λ (room : at + length w ≤ length buf).
    let a = one.wrote room in
    let b = two.wrote room in
    (a.ends ∙ sym b.ends, a.holds ∙ sym b.holds))
    (lt_or_le (length buf) (at + length w))

-- ---- `put`
wrote_number : (buf : List ℕ) (at n r : ℕ) (buf' : List ℕ) → r ≡ written_to buf at n → buf' ≡ written buf at n → WroteOrNothing buf at (encode n) r buf'
unfolding written written_to fits pick
wrote_number buf at n r buf' next is = record {
  wrote = λ room. record { ends = rw (le-leb _ _ room) at next; holds = rw (le-leb _ _ room) at is };
  nothing = λ late. (rw (lt-leb _ _ late) at next, rw (lt-leb _ _ late) at is);
}

pub wrote_form :
    (buf : List ℕ) (at n m r : ℕ) (buf' : List ℕ) → encode m ≡ encode n →
    r ≡ written_to buf at m → buf' ≡ written buf at m → WroteOrNothing buf at (encode n) r buf'
wrote_form buf at n m r buf' same next is = rw (← same) (wrote_number buf at m r buf' next is)

-- ---- bytes in a row
module _ (bytes : ℕ → List ℕ) where
  row_next : (i : ℕ) → length (in_row bytes (suc i)) ≡ length (in_row bytes i) + length (bytes i)
  unfolding in_row
  row_next i = length-append (in_row bytes i) (bytes i)

  pub row_size : (most k : ℕ) → ((i : ℕ) → i < k → length (bytes i) ≤ most) → length (in_row bytes k) ≤ most * k
  unfolding in_row
  row_size most zero to = omega arith
  row_size most (suc k) to = omega (arith, row_next k, row_size most k (λ i h. to i (omega arith)), to k (omega arith))

-- ---- a row of forms
module _ {A : Type 0} (bytes : A → List ℕ) (row : List A) where
  -- the bytes of the first k in a row, by their places
  pub row_is : (d : A) (k : ℕ) → k ≤ length row → in_row (λ i. bytes (get_or row i d)) k ≡ flat_map bytes (take k row)
  unfolding in_row
  row_is d zero h = refl
  row_is d (suc k) h = rw (row_is d k (omega arith), take-suc row k d h) (flat_map_more bytes [] (take k row) (get_or row k d))

  module _ (i : ℕ) (a d : A) (here : i < length row) (is : a ≡ get_or row i d) where
    form_next : flat_map bytes (take (i + 1) row) ≡ flat_map bytes (take i row) ++ bytes a
    form_next = ap (flat_map bytes) (take_more row i d here) ∙ rw (← is) (sym (flat_map_more bytes [] (take i row) a))

    pub forms_wrote :
        (buf₀ : List ℕ) (at next : ℕ) (buf : List ℕ) (next' : ℕ) (buf' : List ℕ) →
        WroteIfRoom buf₀ at (flat_map bytes (take i row)) next buf → WroteIfRoom buf next (bytes a) next' buf' →
        WroteIfRoom buf₀ at (flat_map bytes (take (i + 1) row)) next' buf'
    forms_wrote buf₀ at next buf next' buf' so_far more = rw form_next (room_more buf₀ at _ next buf (bytes a) next' buf' so_far more)

pub none_wrote : (buf : List ℕ) (at : ℕ) → WroteIfRoom buf at [] at buf
none_wrote buf at = record { wrote = λ room. wrote_none buf at }
