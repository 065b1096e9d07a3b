-- A row of places filled from the front: the first are as in a full row, and the others are blank.
-- Assumes nothing.
use mathlib.Core.Path.{◌≡◌, sym, ◌∙◌}
use mathlib.Core.Logic.{⊎_elim}
use mathlib.Core.List.{List}
use Prim.Native.Nat.{ℕ, suc, ◌≤◌, ◌<◌}
use native.Mathlib.Omega.{arith}
use lib.ListN.{length, get_or, set, replicate, length-set, length-replicate, get_or-replicate}
use lib.Seq.{ext_get_or, get_or-set_same, get_or-set_other}
use Rattle.base.proofs.Cases.{lt_or_le}
use Rattle.theory.proofs.SumLaws.{below_suc}

pub record Filling {A : Type 0} (default blank : A) (room k : ℕ) (full row : List A) : Type 0 where
  pub long : length row ≡ room
  pub front : (i : ℕ) → i < k → get_or row i default ≡ get_or full i default
  pub back : (i : ℕ) → k ≤ i → i < room → get_or row i default ≡ blank

module _ {A : Type 0} (default blank : A) (room : ℕ) (full : List A) where
  pub filling_none : Filling default blank room 0 full (replicate room blank)
  filling_none = record {
    long = length-replicate room blank;
    front = λ i h. absurd (omega arith);
    back = λ i h l. get_or-replicate room i blank default l;
  }

  pub filling_more : (k : ℕ) (row : List A) → k < room → Filling default blank room k full row → Filling default blank room (suc k) full (set row k (get_or full k default))
  filling_more k row h f = record {
    long = length-set row k (get_or full k default) ∙ f.long;
    front = below_suc
        (λ i l. get_or-set_other row k i (get_or full k default) default (λ same. omega arith) ∙ f.front i l)
        (get_or-set_same row k (get_or full k default) default (omega (arith, f.long)));
    back = λ i l u. get_or-set_other row k i (get_or full k default) default (λ same. omega arith) ∙ f.back i (omega arith) u;
  }

  pub filling_all : (n : ℕ) (row : List A) → Filling default blank room n full row → length full ≡ room → ((i : ℕ) → n ≤ i → i < room → get_or full i default ≡ blank) → row ≡ full
  filling_all n row f long blanks =
      ext_get_or default row full (f.long ∙ sym long)
      (λ i h. ⊎_elim
      (λ (l : i < n). f.front i l)
      (λ (l : n ≤ i). let u = rw f.long at h in f.back i l u ∙ sym (blanks i l u))
      (lt_or_le i n))
