-- Bit q of row p is set exactly where a link leads from p to q, or back.
-- Assumes nothing.
use Rattle.std.proofs.Common.{◌≡◌, ℕ, ◌^◌, ◌<◌, min, Bool, true, List, length, get_or, take, refl, ap, ◌∙◌, arith}
use Rattle.std.proofs.lemmas.List.{length-take-le, get_or-take}
use Rattle.marks.specs.Marks.{bit}
use Rattle.marks.proofs.Rows.{Entry, marks_fit, mark_entry, entry_mark, marks_alike}
use Rattle.board.specs.declared.Link.{Link}
use Rattle.board.specs.declared.Board.{Board}
use Rattle.board.specs.Board.{no_link, link_at, Linked, WellFormed}
use Rattle.cone.specs.Sweeps.{rows_of, columns_of, forth_rows, back_rows}

-- ---- the links as the code passes them on
module _ (b : Board) (n : ℕ) (cut : n ≡ min b.links 256) (long : length b.link ≡ 256) where
  held_long : length (take n b.link) ≡ n
  held_long = length-take-le n b.link (omega arith)

  leaves : (l : ℕ) → l < n → (get_or (take n b.link) l no_link).from ≡ (link_at b l).from
  leaves l h = ap (λ (x : Link). x.from) (get_or-take n b.link l no_link h)

  enters : (l : ℕ) → l < n → (get_or (take n b.link) l no_link).to ≡ (link_at b l).to
  enters l h = ap (λ (x : Link). x.to) (get_or-take n b.link l no_link h)

  pub rows_forth : rows_of (take n b.link) ≡ forth_rows b
  unfolding rows_of forth_rows
  rows_forth = rw (held_long, ← cut) (marks_alike _ _ _ _ _ n leaves enters)

  pub columns_back : columns_of (take n b.link) ≡ back_rows b
  unfolding columns_of back_rows
  columns_back = rw (held_long, ← cut) (marks_alike _ _ _ _ _ n enters leaves)

-- ---- the rows of a board
abbrev any : ℕ → Bool
any l = true

module _ (b : Board) where
  abbrev first : ℕ → ℕ
  first l = (link_at b l).from

  abbrev second : ℕ → ℕ
  second l = (link_at b l).to

  abbrev all : ℕ
  all = min b.links 256

  pub forth_fit : (p : ℕ) → get_or (forth_rows b) p 0 < 2 ^ 64
  unfolding forth_rows
  forth_fit p = marks_fit any first second all p

  pub back_fit : (p : ℕ) → get_or (back_rows b) p 0 < 2 ^ 64
  unfolding back_rows
  back_fit p = marks_fit any second first all p

  module _ (ok : WellFormed b) where
    pub from_below : (p q : ℕ) → Linked b p q → p < 64
    from_below p q l = omega (arith, ok.from_in l.link l.here, l.from, ok.parts_to)

    pub to_below : (p q : ℕ) → Linked b p q → q < 64
    to_below p q l = omega (arith, ok.to_in l.link l.here, l.to, ok.parts_to)

    pub row_linked : (p q : ℕ) → bit (get_or (forth_rows b) p 0) q ≡ 1 → Linked b p q
    unfolding forth_rows
    row_linked p q h =
        let e : Entry any first second all p q = mark_entry any first second all p q h in
        record { link = e.link; here = omega (arith, e.here); from = e.leaves; to = e.enters }

    pub column_linked : (p q : ℕ) → bit (get_or (back_rows b) p 0) q ≡ 1 → Linked b q p
    unfolding back_rows
    column_linked p q h =
        let e : Entry any second first all p q = mark_entry any second first all p q h in
        record { link = e.link; here = omega (arith, e.here); from = e.enters; to = e.leaves }

    pub linked_row : (p q : ℕ) → Linked b p q → bit (get_or (forth_rows b) p 0) q ≡ 1
    unfolding forth_rows
    linked_row p q l =
        rw (← l.from, ← l.to)
        (entry_mark any first second all l.link (omega (arith, l.here, ok.links_to)) refl (omega (arith, from_below p q l, l.from)) (omega (arith, to_below p q l, l.to)))

    pub linked_column : (p q : ℕ) → Linked b p q → bit (get_or (back_rows b) q 0) p ≡ 1
    unfolding back_rows
    linked_column p q l =
        rw (← l.from, ← l.to)
        (entry_mark any second first all l.link (omega (arith, l.here, ok.links_to)) refl (omega (arith, to_below p q l, l.to)) (omega (arith, from_below p q l, l.from)))
