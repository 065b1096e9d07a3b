-- Two well formed boards with the same rule, deadline, curves and links are the same value: strictly ascending links with the same members are the
-- same row, and all other places are blank.
-- Assumes nothing.
use mathlib.Core.Path.{◌≡◌, refl, sym, ap, ◌∙◌}
use mathlib.Core.Logic.{⊎_elim}
use mathlib.Core.List.{List}
use Prim.Native.Nat.{ℕ, ◌≤◌, ◌<◌}
use native.Mathlib.Omega.{arith}
use native.Mathlib.Nat.{le_antisymm}
use lib.Seq.{ext_get_or}
use Rattle.base.proofs.Cases.{lt_or_le}
use Rattle.curve.specs.declared.Ticks.{Ticks}
use Rattle.curve.specs.declared.Curve.{Curve}
use Rattle.board.specs.declared.Rule.{Rule}
use Rattle.board.specs.declared.Link.{Link}
use Rattle.board.specs.declared.Board.{Board}
use Rattle.board.specs.Board.{WellFormed, Linked, Has, link_at, curve_at, no_link, no_curve, order}
use Rattle.board.proofs.Ascending.{Within, Agree, agree, rises}

abbrev pub orders : Board → ℕ → ℕ
orders b l = order (link_at b l)

pub to_below : (b : Board) → WellFormed b → (l : ℕ) → l < b.links → (link_at b l).to < 64
to_below b w l h = omega (arith, w.to_in l h, w.parts_to)

-- a link with its ends, and its ends alone
pub whole_linked : (b : Board) (x : Link) → Has b x → Linked b x.from x.to
whole_linked b x k = record { link = k.at; here = k.here; from = ap (λ (l : Link). l.from) k.is; to = ap (λ (l : Link). l.to) k.is }

pub linked_whole : (b : Board) (p q : ℕ) (k : Linked b p q) → Has b (link_at b k.link)
linked_whole b p q k = record { at = k.link; here = k.here; is = refl }

-- links that stand at one place in the order are one link
one_place : (b : Board) → WellFormed b → (k l : ℕ) → k < b.links → l < b.links → orders b k ≡ orders b l → k ≡ l
one_place b w k l h s e = ⊎_elim
    (λ (r : k < l). absurd (omega (arith, rises b.links (orders b) w.ascends k l r s)))
    (λ (r : l ≤ k). ⊎_elim (λ (t : l < k). absurd (omega (arith, rises b.links (orders b) w.ascends l k t h))) (λ (t : k ≤ l). omega arith) (lt_or_le l k))
    (lt_or_le k l)

-- every link of one board is a link of the other
module _ (b b' : Board) (w : WellFormed b) (w' : WellFormed b') (same : (x : Link) → Has b x → Has b' x) (back : (x : Link) → Has b' x → Has b x) where
  there : (c d : Board) → ((x : Link) → Has c x → Has d x) → (l : ℕ) → l < c.links → Within d.links (orders d) (orders c l)
  there c d goes l h =
      let k = goes (link_at c l) (record { at = l; here = h; is = refl }) in
      record { at = k.at; here = k.here; is = ap order k.is }

  agrees : Agree b.links b'.links (orders b) (orders b')
  agrees = agree b.links b'.links (orders b) (orders b') w.ascends w'.ascends (there b b' same) (there b' b back) b.links (omega arith)

  agrees_back : Agree b'.links b.links (orders b') (orders b)
  agrees_back = agree b'.links b.links (orders b') (orders b) w'.ascends w.ascends (there b' b back) (there b b' same) b'.links (omega arith)

  pub same_count : b.links ≡ b'.links
  same_count = le_antisymm agrees.fits agrees_back.fits

  -- link l of one board stands in the other, and there at place l
  same_held : (l : ℕ) → l < b.links → link_at b l ≡ link_at b' l
  same_held l h =
      let k = same (link_at b l) (record { at = l; here = h; is = refl }) in
      let e : k.at ≡ l = one_place b' w' k.at l k.here (omega (arith, same_count)) (ap order k.is ∙ agrees.same l h) in
      sym k.is ∙ ap (link_at b') e

  same_link : (l : ℕ) → l < 256 → link_at b l ≡ link_at b' l
  same_link l r = ⊎_elim
      (λ (h : l < b.links). same_held l h)
      (λ (h : b.links ≤ l). w.blank_links l h r ∙ sym (w'.blank_links l (omega (arith, same_count)) r))
      (lt_or_le l b.links)

  pub same_links : b.link ≡ b'.link
  same_links = ext_get_or no_link b.link b'.link (w.link_room ∙ sym w'.link_room) (λ l h. same_link l (rw w.link_room at h))

module _ (b b' : Board) (w : WellFormed b) (w' : WellFormed b') (parts : b.parts ≡ b'.parts) (same : (p : ℕ) → p < b.parts → curve_at b p ≡ curve_at b' p) where
  same_curve : (p : ℕ) → p < 64 → curve_at b p ≡ curve_at b' p
  same_curve p r = ⊎_elim
      (λ (h : p < b.parts). same p h)
      (λ (h : b.parts ≤ p). w.blank_curves p h r ∙ sym (w'.blank_curves p (omega arith) r))
      (lt_or_le p b.parts)

  pub same_curves : b.curve ≡ b'.curve
  same_curves = ext_get_or no_curve b.curve b'.curve (w.curve_room ∙ sym w'.curve_room) (λ p h. same_curve p (rw w.curve_room at h))

-- six fields make a board
abbrev made : Rule → Ticks → ℕ → List Curve → ℕ → List Link → Board
made r d n c m l = record { rule = r; deadline = d; parts = n; curve = c; links = m; link = l }

pub board_same : (b b' : Board) → b.rule ≡ b'.rule → b.deadline ≡ b'.deadline → b.parts ≡ b'.parts → b.curve ≡ b'.curve → b.links ≡ b'.links → b.link ≡ b'.link → b ≡ b'
board_same b b' r d n c m l =
    ap (λ (x : Rule). made x b.deadline b.parts b.curve b.links b.link) r
    ∙ ap (λ (x : Ticks). made b'.rule x b.parts b.curve b.links b.link) d
    ∙ ap (λ (x : ℕ). made b'.rule b'.deadline x b.curve b.links b.link) n
    ∙ ap (λ (x : List Curve). made b'.rule b'.deadline b'.parts x b.links b.link) c
    ∙ ap (λ (x : ℕ). made b'.rule b'.deadline b'.parts b'.curve x b.link) m
    ∙ ap (λ (x : List Link). made b'.rule b'.deadline b'.parts b'.curve b'.links x) l

-- what two boards have in common where they are the same
pub record Alike (b b' : Board) : Type 0 where
  pub rule : b.rule ≡ b'.rule
  pub deadline : b.deadline ≡ b'.deadline
  pub parts : b.parts ≡ b'.parts
  pub curves : (p : ℕ) → p < b.parts → curve_at b p ≡ curve_at b' p
  pub links : (x : Link) → Has b x → Has b' x
  pub links_back : (x : Link) → Has b' x → Has b x

pub same_board : (b b' : Board) → WellFormed b → WellFormed b' → Alike b b' → b ≡ b'
same_board b b' w w' a =
    board_same b b' a.rule a.deadline a.parts (same_curves b b' w w' a.parts a.curves) (same_count b b' w w' a.links a.links_back) (same_links b b' w w' a.links a.links_back)
