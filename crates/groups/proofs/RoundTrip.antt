-- Numbers written and read: what is written is read back, what is read is rewritten byte for byte, and a number has one form.
-- Each is shown group by group, for any groups left.
-- Assumes nothing.
use mathlib.Core.Path.{◌≡◌, refl, sym, ap, ◌∙◌}
use mathlib.Core.Bool.{true}
use mathlib.Core.Logic.{⊎_elim}
use mathlib.Core.List.{List, [], ◌∷◌, ◌++◌}
use Prim.Native.Nat.{ℕ, zero, suc, ◌+◌, ◌-◌, ◌*◌, ◌/◌, ◌%◌, ◌^◌, ◌<◌, ◌≤◌}
use native.Mathlib.Omega.{arith}
use native.Mathlib.Nat.{pow-suc, mod-eq_of_lt, div-add-mod', one-le-pow}
use native.Mathlib.Numerals.{add-one}
use lib.ListN.{length, get_or, take, drop, length-drop}
use lib.Seq.{drop-cons, drop-append_seam, length-take-le}
use borrow.Author.Tests.{ltb-true, lt-ltb, eq-eqb, ne_eqb}
use Rattle.base.specs.Pick.{pick}
use Rattle.base.proofs.Cases.{lt_or_le, eq_or_ne}
use Rattle.refusal.specs.declared.Why.TheVariants.{CutShort, NotShortest}
use Rattle.refusal.specs.Refusal.{refused}
use Rattle.groups.specs.declared.Read.{Read}
use Rattle.groups.specs.Parse.{got}
use Rattle.groups.specs.Number.{groups, limit, shortest_end, groups_from, number_at, encode_in, encode}
use Rattle.groups.proofs.Groups.{input_ends, number_ends, longer_than_needed, goes_on}
use Rattle.groups.proofs.Forms.{in_last, in_more, rest_less, one_left, encode_is}
use Rattle.groups.proofs.NumberLaws.{by_group}

-- ---- what is written is read back
-- a byte that stands at a place
module _ (s rest : List ℕ) (at b : ℕ) (stands : drop at s ≡ b ∷ rest) where
  byte_within : at < length s
  byte_within = omega (arith, length-drop at s, ap length stands)

  byte_is : get_or s at 0 ≡ b
  byte_is = let e : get_or s at 0 ∷ drop (suc at) s ≡ b ∷ rest = sym (drop-cons s at 0 byte_within) ∙ stands in cc

  byte_rest : drop (at + 1) s ≡ rest
  byte_rest = let e : get_or s at 0 ∷ drop (suc at) s ≡ b ∷ rest = sym (drop-cons s at 0 byte_within) ∙ stands in rw add-one (cc)

-- a group that is not zero may end a number, and one that is may where it is the first
short_end : (first at g : ℕ) → (g ≡ 0 → at ≡ first) → shortest_end first at g ≡ true
unfolding shortest_end pick
short_end first at g only = ⊎_elim
    (λ (same : at ≡ first). rw (eq-eqb _ _ same))
    (λ (other : at ≡ first → ⊥). rw (ne_eqb _ _ other, lt-ltb 0 g (⊎_elim (λ (some : 0 < g). some) (λ (none : g ≤ 0). absurd (other (only (omega arith)))) (lt_or_le 0 g))))
    (eq_or_ne at first)

groups_read_back : (left : ℕ) (s post : List ℕ) (n first at scale sum : ℕ) → 0 < left → n < 128 ^ left → (n ≡ 0 → at ≡ first) → drop at s ≡ encode_in left n ++ post → groups_from left s first at scale sum ≡ got (sum + n * scale) (at + length (encode_in left n))
groups_read_back zero s post n first at scale sum some less only stands = absurd (omega arith)
groups_read_back (suc left) s post n first at scale sum some less only stands = ⊎_elim
    (λ (small : n < 128).
    let here : drop at s ≡ n ∷ post = rw (in_last left n small) at stands in
    let byte : get_or s at 0 ≡ n = byte_is s post at n here in
    let short : shortest_end first at (get_or s at 0) ≡ true = rw byte (short_end first at n only) in
    number_ends left s first at scale sum (byte_within s post at n here) (rw byte small) short ∙ rw (byte, in_last left n small, mod-eq_of_lt small))
    (λ (large : 128 ≤ n).
    let here : drop at s ≡ (n % 128 + 128) ∷ (encode_in left (n / 128) ++ post) = rw (in_more left n large) at stands in
    let byte : get_or s at 0 ≡ n % 128 + 128 = byte_is s (encode_in left (n / 128) ++ post) at (n % 128 + 128) here in
    let bits : get_or s at 0 % 128 ≡ n % 128 = rw byte (omega arith) in
    let rest : groups_from left s first (at + 1) (scale * 128) (sum + n % 128 * scale) ≡ got (sum + n % 128 * scale + n / 128 * (scale * 128)) (at + 1 + length (encode_in left (n / 128))) =
    groups_read_back left s post (n / 128) first (at + 1) (scale * 128) (sum + n % 128 * scale) (one_left left n large less) (rest_less left n less) (λ (none : n / 128 ≡ 0). absurd (omega arith)) (byte_rest s (encode_in left (n / 128) ++ post) at (n % 128 + 128) here) in
    let worth : sum + n % 128 * scale + n / 128 * (scale * 128) ≡ sum + n * scale = omega (arith, ap (λ (m : ℕ). m * scale) (div-add-mod' n 128)) in
    let ends : at + 1 + length (encode_in left (n / 128)) ≡ at + length (encode_in (suc left) n) = rw (in_more left n large) (omega arith) in
    goes_on left s first at scale sum (byte_within s (encode_in left (n / 128) ++ post) at (n % 128 + 128) here) (rw byte (omega arith)) ∙ rw bits (rest ∙ rw (worth, ends)))
    (lt_or_le n 128)

-- the form of a number is read as that number, wherever it stands
pub reads_at : (s post : List ℕ) (at n : ℕ) → n < limit → drop at s ≡ encode n ++ post → number_at s at ≡ got n (at + length (encode n))
unfolding number_at
reads_at s post at n less stands =
    let stands' : drop at s ≡ encode_in groups n ++ post = rw (encode_is n less) at stands in
    let worth : 0 + n * 1 ≡ n = omega arith in
    rw (encode_is n less) (groups_read_back groups s post n at at 1 0 (omega arith) less (λ (none : n ≡ 0). refl) stands' ∙ ap (λ (v : ℕ). got v (at + length (encode_in groups n))) worth)

pub reads_back : (pre post : List ℕ) (n : ℕ) → n < limit → number_at (pre ++ (encode n ++ post)) (length pre) ≡ got n (length pre + length (encode n))
reads_back pre post n less = reads_at (pre ++ (encode n ++ post)) post (length pre) n less (drop-append_seam pre (encode n ++ post))

-- ---- what is read is rewritten byte for byte
-- every byte is below 256
abbrev pub Bytes : List ℕ → Type 0
Bytes s = (i : ℕ) → i < length s → get_or s i 0 < 256

-- what the groups from a place on stand for: `worth` units of `scale` over the sum before, in its form
pub record Form (left : ℕ) (s : List ℕ) (first at scale sum v n : ℕ) : Type 0 where
  pub worth : ℕ
  pub value : v ≡ sum + worth * scale
  pub less : worth < 128 ^ left
  pub above : at < n
  pub within : n ≤ length s
  pub only : worth ≡ 0 → at ≡ first
  pub bytes : Bytes s → take (n - at) (drop at s) ≡ encode_in left worth

-- a group of zero that may end a number is its first
zero_first : (first at g : ℕ) → shortest_end first at g ≡ true → g ≡ 0 → at ≡ first
unfolding shortest_end pick
zero_first first at g short none = ⊎_elim
    (λ (same : at ≡ first). same)
    (λ (other : at ≡ first → ⊥). let small : 0 < g = ltb-true 0 g (rw (ne_eqb _ _ other) at short) in absurd (omega arith))
    (eq_or_ne at first)

-- a part that begins with a byte
take_byte : (s : List ℕ) (at n : ℕ) → at < n → at < length s → take (n - at) (drop at s) ≡ get_or s at 0 ∷ take (n - (at + 1)) (drop (at + 1) s)
take_byte s at n above more =
    let one_more : n - at ≡ suc (n - (at + 1)) = omega arith in
    rw (one_more, drop-cons s at 0 more, add-one)

module _ (left : ℕ) (s : List ℕ) (first at scale sum v n : ℕ) where
  last_form : at < length s → get_or s at 0 < 128 → shortest_end first at (get_or s at 0) ≡ true → got (sum + get_or s at 0 % 128 * scale) (at + 1) ≡ got v n → Form (suc left) s first at scale sum v n
  last_form more last short is =
      let same : ◌≡◌ {A = Read ℕ} (record { value = sum + get_or s at 0 % 128 * scale; next = at + 1 }) (record { value = v; next = n }) = cc in
      let value : sum + get_or s at 0 % 128 * scale ≡ v = ap (λ (r : Read ℕ). r.value) same in
      let next : at + 1 ≡ n = ap (λ (r : Read ℕ). r.next) same in
      let none : n - (at + 1) ≡ 0 = omega arith in
      record {
        worth = get_or s at 0;
        value = sym value ∙ rw (mod-eq_of_lt last);
        less = omega (arith, pow-suc 128 left, one-le-pow left 128 (omega arith));
        above = omega arith;
        within = omega arith;
        only = zero_first first at (get_or s at 0) short;
        bytes = λ all. take_byte s at n (omega arith) more ∙ rw (none, in_last left (get_or s at 0) last);
      }

  more_form : first ≤ at → at < length s → 128 ≤ get_or s at 0 → Form left s first (at + 1) (scale * 128) (sum + get_or s at 0 % 128 * scale) v n → Form (suc left) s first at scale sum v n
  more_form from more on rest =
      let g = get_or s at 0 in
      let w = rest.worth in
      record {
        worth = g % 128 + w * 128;
        value = omega (arith, rest.value);
        less = omega (arith, pow-suc 128 left, rest.less);
        above = omega (arith, rest.above);
        within = rest.within;
        only = λ (none : g % 128 + w * 128 ≡ 0). absurd (omega (arith, rest.only (omega arith)));
        bytes = λ (all : Bytes s).
            let byte : g < 256 = all at more in
            let some : 0 < w = ⊎_elim (λ (yes : 0 < w). yes) (λ (no : w ≤ 0). absurd (omega (arith, rest.only (omega arith)))) (lt_or_le 0 w) in
            let low : (g % 128 + w * 128) % 128 + 128 ≡ g = omega arith in
            let high : (g % 128 + w * 128) / 128 ≡ w = omega arith in
            take_byte s at n (omega (arith, rest.above)) more ∙ rw (rest.bytes all, in_more left (g % 128 + w * 128) (omega arith), low, high);
      }

groups_form : (left : ℕ) (s : List ℕ) (first at scale sum v n : ℕ) → first ≤ at → groups_from left s first at scale sum ≡ got v n → Form left s first at scale sum v n
unfolding groups_from
groups_form zero s first at scale sum v n from is = let z : ◌≡◌ {A = ℕ} 0 1 = cc in absurd (omega arith)
groups_form (suc left) s first at scale sum v n from is = by_group
    s first at (Form (suc left) s first at scale sum v n)
    (λ ends. let never : refused CutShort (length s) ≡ got v n = sym (input_ends left s first at scale sum ends) ∙ is in let z : ◌≡◌ {A = ℕ} 0 1 = cc in absurd (omega arith))
    (λ more last short. last_form left s first at scale sum v n more last short (sym (number_ends left s first at scale sum more last short) ∙ is))
    (λ more last long. let never : refused NotShortest first ≡ got v n = sym (longer_than_needed left s first at scale sum more last long) ∙ is in let z : ◌≡◌ {A = ℕ} 0 1 = cc in absurd (omega arith))
    (λ more on. more_form left s first at scale sum v n from more on (groups_form left s first (at + 1) (scale * 128) (sum + get_or s at 0 % 128 * scale) v n (omega arith) (sym (goes_on left s first at scale sum more on) ∙ is)))

-- a number that was read: it ends past its place and within the bytes, and is below the limit
pub number_next : (s : List ℕ) (at v n : ℕ) → number_at s at ≡ got v n → (at < n) × (n ≤ length s) × (v < limit)
unfolding number_at
number_next s at v n is =
    let found = groups_form groups s at at 1 0 v n (omega arith) is in
    (found.above, found.within, omega (arith, found.value, found.less))

-- its bytes are its form
pub writes_back : (s : List ℕ) (at v n : ℕ) → Bytes s → number_at s at ≡ got v n → take (n - at) (drop at s) ≡ encode v
unfolding number_at
writes_back s at v n all is =
    let found = groups_form groups s at at 1 0 v n (omega arith) is in
    let same : found.worth ≡ v = omega (arith, found.value) in
    found.bytes all ∙ rw same (sym (encode_is v (number_next s at v n is).2))

-- "shortest form only": two accepted forms of one number are the same bytes
pub one_form : (s t : List ℕ) (a b v m n : ℕ) → Bytes s → Bytes t → number_at s a ≡ got v m → number_at t b ≡ got v n → take (m - a) (drop a s) ≡ take (n - b) (drop b t)
one_form s t a b v m n bytes-s bytes-t read-s read-t = writes_back s a v m bytes-s read-s ∙ sym (writes_back t b v n bytes-t read-t)

-- a number takes as many bytes as its form
pub number_ends_at : (s : List ℕ) (at v n : ℕ) → Bytes s → number_at s at ≡ got v n → n ≡ at + length (encode v)
number_ends_at s at v n all is =
    let known = number_next s at v n is in
    let long : length (take (n - at) (drop at s)) ≡ length (encode v) = ap length (writes_back s at v n all is) in
    omega (arith, known.0, known.1, rw (length-take-le (n - at) (drop at s) (rw length-drop (omega arith))) at long)

-- ---- 01, Boards to try, case (11): "`80 01` is 128; `80 00` is refusal 2"
pub case_11 : (number_at (128 ∷ 1 ∷ []) 0 ≡ got 128 2) × (number_at (128 ∷ 0 ∷ []) 0 ≡ refused NotShortest 0)
unfolding number_at groups_from shortest_end pick
case_11 = (refl, refl)
