-- The form of a number, group by group, whatever groups are left; its size.
-- Assumes nothing.
use mathlib.Core.Path.{◌≡◌, refl, sym, ap, ◌∙◌}
use mathlib.Core.List.{List, [], ◌∷◌}
use mathlib.Core.Logic.{⊎_elim}
use Prim.Native.Nat.{ℕ, zero, suc, ◌+◌, ◌-◌, ◌*◌, ◌/◌, ◌%◌, ◌^◌, ◌<◌, ◌≤◌}
use native.Mathlib.Omega.{arith}
use native.Mathlib.Nat.{pow-suc, pow-zero}
use mir.Val.{Fits}
use mir.Syntax.{w64}
use lib.ListN.{length}
use borrow.Author.Tests.{lt-ltb, le-ltb}
use Rattle.base.specs.Pick.{pick}
use Rattle.base.proofs.Cases.{lt_or_le}
use Rattle.groups.specs.Number.{groups, limit, encode_in, encode}

-- ---- with some groups left
pub in_last : (left n : ℕ) → n < 128 → encode_in (suc left) n ≡ n ∷ []
unfolding encode_in pick
in_last left n small = rw (lt-ltb _ _ small)

pub in_more : (left n : ℕ) → 128 ≤ n → encode_in (suc left) n ≡ (n % 128 + 128) ∷ encode_in left (n / 128)
unfolding encode_in pick
in_more left n large = rw (le-ltb _ _ large)

pub rest_less : (left n : ℕ) → n < 128 ^ suc left → n / 128 < 128 ^ left
rest_less left n less = let most : n < 128 ^ left * 128 = rw pow-suc at less in omega arith

-- a number of 128 or more leaves a group after its first
pub one_left : (left n : ℕ) → 128 ≤ n → n < 128 ^ suc left → 0 < left
one_left zero n large less = omega (arith, rest_less zero n less, pow-zero 128)
one_left (suc left) n large less = omega arith

-- the form is one, however many groups are left, if they are enough
pub in_enough : (a b n : ℕ) → 0 < a → 0 < b → n < 128 ^ a → n < 128 ^ b → encode_in a n ≡ encode_in b n
in_enough zero b n someA someB fitsA fitsB = absurd (omega arith)
in_enough (suc a) zero n someA someB fitsA fitsB = absurd (omega arith)
in_enough (suc a) (suc b) n someA someB fitsA fitsB = ⊎_elim
    (λ (small : n < 128). in_last a n small ∙ sym (in_last b n small))
    (λ (large : 128 ≤ n). in_more a n large ∙ ap (λ (l : List ℕ). (n % 128 + 128) ∷ l) (in_enough a b (n / 128) (one_left a n large fitsA) (one_left b n large fitsB) (rest_less a n fitsA) (rest_less b n fitsB)) ∙ sym (in_more b n large))
    (lt_or_le n 128)

pub in_size : (left n : ℕ) → length (encode_in left n) ≤ left
unfolding encode_in
in_size zero n = omega arith
in_size (suc left) n = ⊎_elim
    (λ (small : n < 128). rw (in_last left n small) (omega arith))
    (λ (large : 128 ≤ n). rw (in_more left n large) (omega (arith, in_size left (n / 128))))
    (lt_or_le n 128)

-- numbers up to 268,435,455 have a form
pub limit_is : limit ≡ 268435456
limit_is = refl

-- ---- the form
pub encode_is : (n : ℕ) → n < limit → encode n ≡ encode_in groups n
unfolding encode pick
encode_is n less = rw (lt-ltb _ _ less)

pub encode_none : (n : ℕ) → limit ≤ n → encode n ≡ []
unfolding encode pick
encode_none n most = rw (le-ltb _ _ most)

pub encode_last : (n : ℕ) → n < 128 → encode n ≡ n ∷ []
encode_last n small = encode_is n (omega arith) ∙ in_last (groups - 1) n small

pub encode_more : (n : ℕ) → 128 ≤ n → n < limit → encode n ≡ (n % 128 + 128) ∷ encode (n / 128)
encode_more n large less =
    let less' : n / 128 < limit = omega arith in
    let same : encode_in (groups - 1) (n / 128) ≡ encode (n / 128) =
    in_enough (groups - 1) groups (n / 128) (omega arith) (omega arith) (rest_less (groups - 1) n less) less' ∙ sym (encode_is (n / 128) less') in
    encode_is n less ∙ in_more (groups - 1) n large ∙ ap (λ (l : List ℕ). (n % 128 + 128) ∷ l) same

-- "a number may have four groups"
pub size_le : (n : ℕ) → length (encode n) ≤ groups
size_le n = ⊎_elim
    (λ (less : n < limit). rw (encode_is n less) (in_size groups n))
    (λ (most : limit ≤ n). rw (encode_none n most) (omega arith))
    (lt_or_le n limit)

pub size_positive : (n : ℕ) → n < limit → 0 < length (encode n)
size_positive n less = ⊎_elim
    (λ (small : n < 128). rw (encode_last n small) (omega arith))
    (λ (large : 128 ≤ n). rw (encode_more n large less) (omega arith))
    (lt_or_le n 128)

-- the size goes by range
pub size_1 : (n : ℕ) → n < 128 → length (encode n) ≡ 1
size_1 n small = ap length (encode_last n small)

size_more : (n : ℕ) → 128 ≤ n → n < limit → length (encode n) ≡ suc (length (encode (n / 128)))
size_more n large less = ap length (encode_more n large less)

pub size_2 : (n : ℕ) → 128 ≤ n → n < 16384 → length (encode n) ≡ 2
size_2 n large small = size_more n large (omega arith) ∙ ap suc (size_1 (n / 128) (omega arith))

-- ---- the ways through `size`
pub no_form : (n : ℕ) → limit ≤ n → 0 ≡ length (encode n)
no_form n most = sym (ap length (encode_none n most))

module _ (n rest count : ℕ) (is : count + length (encode rest) ≡ length (encode n)) where
  pub counted : rest < 128 → count + 1 ≡ length (encode n)
  counted small = rw (encode_last rest small) at is

  pub counted_more : 128 ≤ rest → rest < limit → count + 1 + length (encode (rest / 128)) ≡ length (encode n)
  counted_more large less = omega (arith, is, ap length (encode_more rest large less))

  pub count_fits : Fits w64 (count + 1)
  count_fits = omega (arith, size_le n)

pub rest_below : (rest : ℕ) → rest < limit → rest / 128 < limit
rest_below rest less = omega arith
