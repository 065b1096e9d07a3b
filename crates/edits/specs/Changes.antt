-- What an accepted edit changes, and when a link can be added or removed.
-- Assumes nothing.
use Rattle.std.specs.Prelude.{◌≡◌, ◌⊎◌, ◌≢◌, ℕ, ◌+◌, ◌<◌}
use Rattle.curve.specs.declared.Ticks.{Ticks}
use Rattle.curve.specs.declared.Curve.{Curve}
use Rattle.board.specs.declared.Link.{Link}
use Rattle.board.specs.declared.Board.{Board}
use Rattle.board.specs.Board.{Linked, Has, plain_link, curve_at}

-- a link that leads from one part to another
pub record Ends (x : Link) (from to : ℕ) : Type 0 where
  pub starts : x.from ≡ from
  pub ends : x.to ≡ to

-- a link that is not refused by 17, 7, 13 or 15
pub record Addable (b : Board) (from to : ℕ) : Type 0 where
  pub from_in : from < b.parts
  pub to_in : to < b.parts
  pub apart : from ≢ to
  pub missing : Linked b from to → ⊥
  pub room : b.links < 256

-- all but the links stays
pub record LinksOnly (b b' : Board) : Type 0 where
  pub rule : b'.rule ≡ b.rule
  pub deadline : b'.deadline ≡ b.deadline
  pub parts : b'.parts ≡ b.parts
  pub curve : b'.curve ≡ b.curve

-- exactly one link is new; every other stays, ends and delay
pub record LinkAdded (b b' : Board) (from to : ℕ) : Type 0 where
  pub rest : LinksOnly b b'
  pub count : b'.links ≡ b.links + 1
  pub new : Has b' (plain_link from to)
  pub kept : (x : Link) → Has b x → Has b' x
  pub only : (x : Link) → Has b' x → Has b x ⊎ (x ≡ plain_link from to)

-- exactly one link is gone; every other stays, ends and delay
pub record LinkRemoved (b b' : Board) (from to : ℕ) : Type 0 where
  pub rest : LinksOnly b b'
  pub count : b'.links + 1 ≡ b.links
  pub gone : Linked b' from to → ⊥
  pub kept : (x : Link) → Has b x → (Ends x from to → ⊥) → Has b' x
  pub only : (x : Link) → Has b' x → Has b x

-- the curve of part p alone is another
pub record CurveChanged (b b' : Board) (p : ℕ) (c : Curve) : Type 0 where
  pub rule : b'.rule ≡ b.rule
  pub deadline : b'.deadline ≡ b.deadline
  pub parts : b'.parts ≡ b.parts
  pub here : curve_at b' p ≡ c
  pub elsewhere : (q : ℕ) → q ≢ p → curve_at b' q ≡ curve_at b q
  pub links : b'.links ≡ b.links
  pub link : b'.link ≡ b.link

-- the deadline alone is another
pub record DeadlineChanged (b b' : Board) (d : Ticks) : Type 0 where
  pub rule : b'.rule ≡ b.rule
  pub deadline : b'.deadline ≡ d
  pub parts : b'.parts ≡ b.parts
  pub curve : b'.curve ≡ b.curve
  pub links : b'.links ≡ b.links
  pub link : b'.link ≡ b.link
