-- 01, Files: "An order opens with its kind. Kinds 1 to 4 are orders, 0 is reserved, 5 upward are unknown. 1: deadline. 2: from, to, a link to
-- add. 3: from, to, a link to remove. 4: part, then a whole new curve as in a design file." An order is read alone: the board is not asked, and
-- what follows it is the next order's. The subtle point: any number may stand for the kind, so 1 and 2 come before 12.
-- Assumes nothing.
use Rattle.std.specs.Prelude.{Bool, true, false, List, ◌++◌, ℕ, ◌≤◌, ◌<◌, eqb, length}
use Rattle.base.specs.Pick.{pick}
use Rattle.refusal.specs.declared.Why.{Why}
use Rattle.refusal.specs.Refusal.{by, refusal}
use Rattle.curve.specs.Curve.{Good}
use Rattle.groups.specs.Number.{number_at, encode}
use Rattle.groups.specs.Parse.{Parse, got}
use Rattle.fields.specs.Parse.{and_then, field_at}
use Rattle.fields.specs.CurveFile.{curve_from, curve_bytes}
use Rattle.orders.specs.declared.Order.{Order}
use Rattle.orders.specs.declared.Order.TheVariants.{Deadline, AddLink, RemoveLink, NewCurve}

-- "part numbers 0 to 63"
abbrev pub part_at : List ℕ → ℕ → Parse ℕ
part_at s at = field_at s 0 63 at

-- kind 1
unfoldable pub deadline_from : List ℕ → ℕ → Parse Order
deadline_from s at = and_then (field_at s 1 4095 at) (λ d next. got (Deadline (record { 0 = d })) next)

-- kind 2 adds a link, kind 3 removes one
abbrev pub link_order : Bool → ℕ → ℕ → Order
link_order true = AddLink
link_order false = RemoveLink

-- kinds 2 and 3: both ends of a link, for a link to add or to remove
unfoldable pub link_from : (ℕ → ℕ → Order) → List ℕ → ℕ → Parse Order
link_from order s at =
    and_then (part_at s at) (λ from at₁. and_then (part_at s at₁) (λ to next. got (order from to) next))

-- kind 4
unfoldable pub new_curve_from : List ℕ → ℕ → Parse Order
new_curve_from s at =
    and_then (part_at s at) (λ part at₁.
    and_then (curve_from s at₁) (λ c next. got (NewCurve part c) next))

-- "order kind not 1 to 4", at the kind's first byte
unfoldable pub kind_from : List ℕ → ℕ → ℕ → Parse Order
kind_from s kind at =
    pick (eqb kind 1) (deadline_from s at)
    (pick (eqb kind 2) (link_from AddLink s at)
    (pick (eqb kind 3) (link_from RemoveLink s at)
    (pick (eqb kind 4) (new_curve_from s at)
    (refusal 12 0))))

-- "An order is read alone (1, 2, 12, 4, 5, 6)": the order that the bytes begin with and "the bytes it took",
-- or the first fault
unfoldable pub order_of : List ℕ → Parse Order
order_of s = and_then (number_at s 0) (kind_from s)

-- ---- orders in their ranges
-- "part numbers 0 to 63"
pub record Ends (from to : ℕ) : Type 0 where
  pub from_in : from ≤ 63
  pub to_in : to ≤ 63

-- "Deadline: 1 to 4,095 ticks"; a new curve is as 01 asks it to be
unfoldable pub Orderly : Order → Type 0
Orderly (Deadline d) = (1 ≤ d.0) × (d.0 ≤ 4095)
Orderly (AddLink from to) = Ends from to
Orderly (RemoveLink from to) = Ends from to
Orderly (NewCurve part c) = (part ≤ 63) × Good c

-- ---- the bytes of an order
unfoldable pub order_bytes : Order → List ℕ
order_bytes (Deadline d) = encode 1 ++ encode d.0
order_bytes (AddLink from to) = encode 2 ++ (encode from ++ encode to)
order_bytes (RemoveLink from to) = encode 3 ++ (encode from ++ encode to)
order_bytes (NewCurve part c) = encode 4 ++ (encode part ++ curve_bytes c)

-- ---- what can be wrong with an order that is read alone
-- "(1, 2, 12, 4, 5, 6)", each with its place: "input length" for 1, "kind's first byte" for 12, for the others a byte of the input
pub data Fault (s : List ℕ) : Why → ℕ → Type 0 where
  cut_short : Fault s (by 1) (length s)
  not_shortest : {at : ℕ} → at < length s → Fault s (by 2) at
  unknown_kind : 0 < length s → Fault s (by 12) 0
  out_of_range : {at : ℕ} → at < length s → Fault s (by 4) at
  saving_not_below : {at : ℕ} → at < length s → Fault s (by 5) at
  power_below_savings : {at : ℕ} → at < length s → Fault s (by 6) at
