-- The ways of the file's writer.
-- Assumes nothing.
use mathlib.Core.Path.{◌≡◌, refl, sym, ap, ◌∙◌}
use mathlib.Core.Bool.{Bool, true, false}
use mathlib.Core.List.{List, ◌++◌}
use Prim.Native.Nat.{ℕ, ◌+◌, ◌≤◌, ◌<◌}
use native.Mathlib.Omega.{arith}
use lib.ListN.{length, take, drop, length-append}
use lib.Seq.{sets-eq}
use borrow.Author.Tests.{lt-ltb, le-ltb}
use Rattle.base.specs.Pick.{pick}
use Rattle.std.specs.List.{flat_map}
use Rattle.std.specs.Prelude.{Some, Ok, Err}
use Rattle.refusal.specs.declared.Refusal.{Refusal}
use Rattle.refusal.specs.declared.Why.TheVariants.{NoBoard, BufferShort}
use Rattle.refusal.specs.Refusal.{Answer, refusal_at}
use Rattle.groups.specs.Number.{encode}
use Rattle.fields.specs.CurveFile.{curve_bytes}
use Rattle.fields.specs.LinkFile.{link_bytes}
use Rattle.fields.specs.Writing.{WroteIfRoom, WroteOrNothing}
use Rattle.fields.proofs.WritingLaws.{then_wrote, room_more, row_is}
use Rattle.board.specs.declared.Board.{Board}
use Rattle.board.specs.Board.{no_curve, no_link, WellFormed}
use Rattle.board.specs.Tests.{Decides}
use Rattle.design.specs.Design.{parts_bytes, links_bytes, linked_bytes, body_bytes, head_bytes, file_of}
use Rattle.design_write.specs.Write.{write_of, buffer_of, FileCounted, FileWritten}

never : (t : Bool) → t ≡ true → t ≡ false → ⊥
never t e f = let z : ◌≡◌ {A = ℕ} 0 1 = cc in omega arith

-- ---- sizes
-- the rows of a well-formed board
pub curves_are : (b : Board) → WellFormed b → parts_bytes b b.parts ≡ flat_map curve_bytes (take b.parts b.curve)
unfolding parts_bytes
curves_are b w = row_is curve_bytes b.curve no_curve b.parts (omega (arith, w.parts_to, w.curve_room))

pub links_are : (b : Board) → WellFormed b → links_bytes b b.links ≡ flat_map link_bytes (take b.links b.link)
unfolding links_bytes
links_are b w = row_is link_bytes b.link no_link b.links (omega (arith, w.links_to, w.link_room))

pub file_counted :
    (b : Board) (one deadline parts curves links row : ℕ) → WellFormed b →
    one ≡ length (encode 1) → deadline ≡ length (encode b.deadline.0) → parts ≡ length (encode b.parts) →
    curves ≡ length (flat_map curve_bytes (take b.parts b.curve)) → links ≡ length (encode b.links) → row ≡ length (flat_map link_bytes (take b.links b.link)) →
    one + deadline + parts + (curves + (links + row)) ≡ length (file_of b)
unfolding file_of head_bytes body_bytes linked_bytes
file_counted b one deadline parts curves links row w is_one is-deadline is-parts is-curves is-links is_row =
    let d = encode b.deadline.0 in
    let p = encode b.parts in
    let c = parts_bytes b b.parts in
    let l = encode b.links in
    let r = links_bytes b b.links in
    omega (
      arith,
      length-append (encode 1) (d ++ (p ++ (c ++ (l ++ r)))),
      length-append d (p ++ (c ++ (l ++ r))),
      length-append p (c ++ (l ++ r)),
      length-append c (l ++ r),
      length-append l r,
      ap length (curves_are b w),
      ap length (links_are b w),
    )

-- ---- `design_size`
module _ (b : Board) (t : Bool) (test : Decides t (WellFormed b)) where
  pub formed : t ≡ true → WellFormed b
  formed is = test.yes is

  pub counted : (r : ℕ) → t ≡ true → r ≡ length (file_of b) → FileCounted b (Some r)
  counted r is size = record { formed = λ w. ap Some size; none = λ no. absurd (no (test.yes is)) }

-- ---- writers one after the other
pub file_filled :
    (b : Board) (buf : List ℕ) (m₁ : ℕ) (b₁ : List ℕ) (m₂ : ℕ) (b₂ : List ℕ) (m₃ : ℕ) (b₃ : List ℕ) (m₄ : ℕ) (b₄ : List ℕ) (m₅ : ℕ) (b₅ : List ℕ) (m₆ : ℕ) (b₆ : List ℕ) →
    WellFormed b → WroteOrNothing buf 0 (encode 1) m₁ b₁ → WroteOrNothing b₁ m₁ (encode b.deadline.0) m₂ b₂ → WroteOrNothing b₂ m₂ (encode b.parts) m₃ b₃ →
    WroteIfRoom b₃ m₃ (flat_map curve_bytes (take b.parts b.curve)) m₄ b₄ → WroteOrNothing b₄ m₄ (encode b.links) m₅ b₅ →
    WroteIfRoom b₅ m₅ (flat_map link_bytes (take b.links b.link)) m₆ b₆ → WroteIfRoom buf 0 (file_of b) m₆ b₆
unfolding file_of head_bytes body_bytes linked_bytes
file_filled b buf m₁ b₁ m₂ b₂ m₃ b₃ m₄ b₄ m₅ b₅ m₆ b₆ w one deadline parts curves links row =
    rw (curves_are b w, links_are b w)
    (then_wrote buf 0 _ m₁ b₁ _ m₆ b₆ one
    (then_wrote b₁ m₁ _ m₂ b₂ _ m₆ b₆ deadline
    (then_wrote b₂ m₂ _ m₃ b₃ _ m₆ b₆ parts
    (room_more b₃ m₃ _ m₄ b₄ _ m₆ b₆ curves
    (then_wrote b₄ m₄ _ m₅ b₅ _ m₆ b₆ links row)))))

-- ---- `write_design`
short_stays : (short : Bool) (buf full : List ℕ) (w e : Refusal) → pick {A = Answer Unit} short (Err w) (Ok tt) ≡ Err e → pick short buf full ≡ buf
unfolding pick
short_stays true buf full w e is = refl
short_stays false buf full w e is = absurd (let z : ◌≡◌ {A = ℕ} 0 1 = cc in omega arith)

write_stays : (b : Board) (buf : List ℕ) (e : Refusal) → write_of b buf ≡ Err e → buffer_of b buf ≡ buf
unfolding write_of buffer_of
write_stays b buf e is = short_stays _ buf _ _ e is

pub refused : (b : Board) (t : Bool) (buf : List ℕ) (e : Refusal) → Decides t (WellFormed b) → t ≡ false → e ≡ refusal_at NoBoard 0 → FileWritten b buf (Err e) buf
refused b t buf e test is fault = record { formed = λ w. absurd (never t (test.no w) is); none = λ no. (ap Err fault, refl); stays = λ e is. refl }

module _ (b : Board) (t : Bool) (test : Decides t (WellFormed b)) (is_formed : t ≡ true) (buf : List ℕ) (needed : ℕ) (is : needed ≡ length (file_of b)) where
  for_formed : (r : Answer Unit) (buf' : List ℕ) → r ≡ write_of b buf → buf' ≡ buffer_of b buf → FileWritten b buf r buf'
  for_formed r buf' answer after = record { formed = λ w. (answer, after); none = λ no. absurd (no (test.yes is_formed)); stays = λ e is. after ∙ write_stays b buf e (sym answer ∙ is) }

  pub too_short : (e : Refusal) → length buf < needed → e ≡ refusal_at BufferShort needed → FileWritten b buf (Err e) buf
  unfolding write_of buffer_of pick
  too_short e h fault = for_formed _ buf (rw (← is, lt-ltb (length buf) needed h) (ap Err fault)) (rw (← is, lt-ltb (length buf) needed h))

  module _ (h : needed ≤ length buf) where
    done : Ok tt ≡ write_of b buf
    unfolding write_of pick
    done = rw (← is, le-ltb (length buf) needed h)

    module _ (n : ℕ) (buf' : List ℕ) (wrote : WroteIfRoom buf 0 (file_of b) n buf') where
      filled : buf' ≡ buffer_of b buf
      unfolding buffer_of pick
      filled =
          let room : 0 + length (file_of b) ≤ length buf = omega arith in
          let all = wrote.wrote room in
          rw (← is, le-ltb (length buf) needed h)
          (all.holds ∙ sets-eq (file_of b) buf 0 room ∙ (let past : 0 + length (file_of b) ≡ needed = omega arith in ap (λ (i : ℕ). file_of b ++ drop i buf) past))

      pub file_written : FileWritten b buf (Ok tt) buf'
      file_written = for_formed (Ok tt) buf' done filled
