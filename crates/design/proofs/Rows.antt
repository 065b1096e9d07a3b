-- A row read place by place, for parts and for links alike: one step more, a fault, what is known of a row that was read, and that a row
-- written is read back.
-- Assumes nothing.
use mathlib.Core.Path.{◌≡◌, refl, sym, ap, ◌∙◌}
use mathlib.Core.Logic.{⊎_elim}
use mathlib.Core.List.{List, [], ◌++◌}
use Prim.Native.Nat.{ℕ, zero, suc, ◌+◌, ◌≤◌, ◌<◌}
use native.Mathlib.Omega.{arith}
use native.Mathlib.Nat.{add-zero}
use lib.ListN.{length, get_or, set, replicate, length-set, length-replicate, get_or-replicate}
use lib.Seq.{get_or-set_same, get_or-set_other}
use Rattle.base.proofs.Cases.{lt_or_le}
use Rattle.std.specs.Prelude.{Err}
use Rattle.refusal.specs.declared.Refusal.{Refusal}
use Rattle.theory.proofs.SumLaws.{below_suc}
use Rattle.groups.proofs.RoundTrip.{Bytes}
use Rattle.groups.specs.Parse.{Parse, got}
use Rattle.fields.specs.Parse.{and_then, repeat}
use Rattle.fields.specs.Writing.{in_row}
use Rattle.fields.proofs.ParseLaws.{then_got, got_same, repeat_on, repeat_fault, repeat_keeps}
use Rattle.fields.proofs.Stands.{Stands, stands_none, stands_first, stands_then, stands_join}
use Rattle.fields.proofs.Filling.{Filling, filling_none, filling_more, filling_all}
use Rattle.design.specs.Design.{in_place}

-- ---- one step
module _ {A : Type 0} (read : ℕ → List A → ℕ → Parse A) (i : ℕ) (row : List A) (at : ℕ) where
  place_got : (a : A) (n : ℕ) → read i row at ≡ got a n → in_place read i row at ≡ got (set row i a) n
  unfolding in_place and_then
  place_got a n e = rw e

  place_stop : (e : Refusal) → read i row at ≡ Err e → in_place read i row at ≡ Err e
  unfolding in_place and_then
  place_stop e stops = rw stops

module _ {A : Type 0} (read : ℕ → List A → ℕ → Parse A) (start : List A) (at i : ℕ) (row : List A) (next : ℕ) (so_far : repeat (in_place read) start at i ≡ got row next) where
  pub row_on : (a : A) (n : ℕ) → read i row next ≡ got a n → repeat (in_place read) start at (i + 1) ≡ got (set row i a) n
  row_on a n e = repeat_on (in_place read) start at i row next so_far (set row i a) n (place_got read i row next a n e)

  pub row_fault : (e : Refusal) (n : ℕ) → read i row next ≡ Err e → i < n → repeat (in_place read) start at n ≡ Err e
  row_fault e n stops l = repeat_fault (in_place read) start at i n row next e so_far (place_stop read i row next e stops) l

  pub row_ended : (n : ℕ) → i ≤ n → n ≤ i → repeat (in_place read) start at n ≡ got row next
  row_ended n l h = let same : n ≡ i = omega arith in rw same so_far

row_same : (f g : ℕ → List ℕ) (k : ℕ) → ((i : ℕ) → i < k → f i ≡ g i) → in_row f k ≡ in_row g k
unfolding in_row
row_same f g zero h = refl
row_same f g (suc k) h = rw (row_same f g k (λ i l. h i (omega arith)), h k (omega arith))

-- ---- a row of which the first k places were read: what holds of each and of neighbours; the other places are blank
pub record RowRead {A : Type 0} (s : List ℕ) (default blank : A) (room at : ℕ) (Each : A → Type 0) (Next : A → A → Type 0) (bytes : A → List ℕ) (k : ℕ) (row : List A) (n : ℕ) : Type 0 where
  pub each : (i : ℕ) → i < k → Each (get_or row i default)
  pub neighbours : (i : ℕ) → suc i < k → Next (get_or row i default) (get_or row (suc i) default)
  pub back : (i : ℕ) → k ≤ i → i < room → get_or row i default ≡ blank
  pub long : length row ≡ room
  pub stands : Bytes s → Stands s at (in_row (λ i. bytes (get_or row i default)) k) n
  pub within : at ≤ length s → n ≤ length s

-- what one reading tells of place k
pub record OneRead {A : Type 0} (s : List ℕ) (default : A) (Each : A → Type 0) (Next : A → A → Type 0) (bytes : A → List ℕ) (k : ℕ) (row : List A) (m : ℕ) (a : A) (n : ℕ) : Type 0 where
  pub one : Each a
  pub after : (j : ℕ) → k ≡ suc j → Next (get_or row j default) a
  pub stands : Bytes s → Stands s m (bytes a) n
  pub within : n ≤ length s

module _ {A : Type 0} (s : List ℕ) (default blank : A) (room at : ℕ) (Each : A → Type 0) (Next : A → A → Type 0) (bytes : A → List ℕ) where
  abbrev Read : ℕ → List A → ℕ → Type 0
  Read k row n = RowRead s default blank room at Each Next bytes k row n

  none_read : Read 0 (replicate room blank) at
  unfolding in_row
  none_read = record {
    each = λ i h. absurd (omega arith);
    neighbours = λ i h. absurd (omega arith);
    back = λ i h l. get_or-replicate room i blank default l;
    long = length-replicate room blank;
    stands = λ all. stands_none s at;
    within = λ h. h;
  }

  module _ (k : ℕ) (row : List A) (m : ℕ) (a : A) (n : ℕ) (h : k < room) (before : Read k row m) (one : OneRead s default Each Next bytes k row m a n) where
    kept : (i : ℕ) → i < k → get_or (set row k a) i default ≡ get_or row i default
    kept i l = get_or-set_other row k i a default (λ same. omega arith)

    new : get_or (set row k a) k default ≡ a
    new = get_or-set_same row k a default (omega (arith, before.long))

    joined : (i : ℕ) → suc i < suc k → Next (get_or (set row k a) i default) (get_or (set row k a) (suc i) default)
    joined i l = ⊎_elim
        (λ (u : suc i < k). rw (kept i (omega arith), kept (suc i) u) (before.neighbours i u))
        (λ (u : k ≤ suc i).
        let last : k ≡ suc i = omega arith in
        let here : get_or (set row k a) (suc i) default ≡ a = rw (← last) new in
        rw (here, kept i (omega arith)) (one.after i last))
        (lt_or_le (suc i) k)

    more_bytes : in_row (λ i. bytes (get_or (set row k a) i default)) (suc k) ≡ in_row (λ i. bytes (get_or row i default)) k ++ bytes a
    unfolding in_row
    more_bytes = rw (row_same (λ i. bytes (get_or (set row k a) i default)) (λ i. bytes (get_or row i default)) k (λ i l. ap bytes (kept i l)), new)

    more_read : Read (suc k) (set row k a) n
    more_read = record {
      each = below_suc (λ i l. rw (kept i l) (before.each i l)) (rw new one.one);
      neighbours = joined;
      back = λ i l u. get_or-set_other row k i a default (λ same. omega arith) ∙ before.back i (omega arith) u;
      long = length-set row k a ∙ before.long;
      stands = λ all. rw more_bytes (stands_join (before.stands all) (one.stands all));
      within = λ l. one.within;
    }

  module _ (read : ℕ → List A → ℕ → Parse A) (tells : (k : ℕ) (row : List A) (m : ℕ) (a : A) (n : ℕ) → k < room → Read k row m → read k row m ≡ got a n → OneRead s default Each Next bytes k row m a n) where
    step : (k : ℕ) (row : List A) (m : ℕ) (row' : List A) (n : ℕ) → k < room → Read k row m → in_place read k row m ≡ got row' n → Read (suc k) row' n
    unfolding in_place
    step k row m row' n h before is =
        let x = then_got (read k row m) _ row' n is in
        got_same (Read (suc k)) (set row k x.value) row' x.place n x.rest
        (more_read k row m x.value x.place h before (tells k row m x.value x.place h before x.first))

    pub row_read : (k : ℕ) → k ≤ room → (row : List A) (n : ℕ) → repeat (in_place read) (replicate room blank) at k ≡ got row n → Read k row n
    row_read k h row n is = repeat_keeps (in_place read) (replicate room blank) at room Read none_read step k h row n is

-- ---- a row that was written is read back
record RowBack {A : Type 0} (read : ℕ → List A → ℕ → Parse A) (default blank : A) (room at : ℕ) (full : List A) (k n : ℕ) : Type 0 where
  row : List A
  is : repeat (in_place read) (replicate room blank) at k ≡ got row n
  filling : Filling default blank room k full row

module _ {A : Type 0} (s : List ℕ) (default blank : A) (room at : ℕ) (full : List A) (bytes : A → List ℕ) (read : ℕ → List A → ℕ → Parse A) (count : ℕ) (fits : count ≤ room)
    (reads : (k : ℕ) (row : List A) (m n : ℕ) → k < count → Filling default blank room k full row → Stands s m (bytes (get_or full k default)) n → read k row m ≡ got (get_or full k default) n) where
  abbrev Back : ℕ → ℕ → Type 0
  Back k n = RowBack read default blank room at full k n

  back_none : (n : ℕ) → Stands s at [] n → Back 0 n
  unfolding repeat
  back_none n x = record {
    row = replicate room blank;
    is = let same : at ≡ n = sym (x.ends ∙ add-zero at) in rw same;
    filling = filling_none default blank room full;
  }

  back_more : (k m n : ℕ) → k < count → Back k m → Stands s m (bytes (get_or full k default)) n → Back (suc k) n
  unfolding repeat and_then
  back_more k m n h before x = record {
    row = set before.row k (get_or full k default);
    is = rw before.is (place_got read k before.row m (get_or full k default) n (reads k before.row m n h before.filling x));
    filling = filling_more default blank room full k before.row (omega arith) before.filling;
  }

  back : (k : ℕ) → k ≤ count → (n : ℕ) → Stands s at (in_row (λ i. bytes (get_or full i default)) k) n → Back k n
  unfolding in_row
  back zero h n x = back_none n x
  back (suc k) h n x =
      let v = in_row (λ i. bytes (get_or full i default)) k in
      let w = bytes (get_or full k default) in
      back_more k (at + length v) n (omega arith) (back k (omega arith) (at + length v) (stands_first v w x)) (stands_then v w x)

  pub row_reads_back : (n : ℕ) → length full ≡ room → ((i : ℕ) → count ≤ i → i < room → get_or full i default ≡ blank) → Stands s at (in_row (λ i. bytes (get_or full i default)) count) n → repeat (in_place read) (replicate room blank) at count ≡ got full n
  row_reads_back n long blanks x =
      let all = back count (omega arith) n x in
      all.is ∙ ap (λ (l : List A). got l n) (filling_all default blank room full count all.row all.filling long blanks)
