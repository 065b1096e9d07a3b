-- Rules: their numbers, and what each leaves of a deadline.
-- Assumes nothing.
use mathlib.Core.Path.{◌≡◌, refl, ap, ◌∙◌}
use mathlib.Core.Logic.{◌≢◌}
use Prim.Native.Nat.{ℕ, zero, suc, ◌≤◌}
use native.Mathlib.Omega.{arith}
use borrow.Author.Tests.{ne_eqb}
use Rattle.std.specs.Prelude.{Ok, Err}
use Rattle.base.specs.Pick.{pick}
use Rattle.refusal.specs.Refusal.{Answer, refusal_at, by}
use Rattle.refusal.specs.declared.Refusal.{Refusal}
use Rattle.board.specs.declared.Rule.{Rule}
use Rattle.board.specs.declared.Rule.TheVariants.{A, B}
use Rattle.board.specs.declared.Board.{Board}
use Rattle.board.specs.Board.{WellFormed, rule_number, rule_of, rule_named, usable_under, usable, under_rule}

-- ---- numbers
pub number_to : (r : Rule) → rule_number r ≤ 1
number_to A = omega arith
number_to B = omega arith

pub rule_back : (r : Rule) → rule_of (rule_number r) ≡ r
unfolding rule_of pick
rule_back A = refl
rule_back B = refl

pub number_back : (n : ℕ) → n ≤ 1 → n ≡ rule_number (rule_of n)
unfolding rule_of pick
number_back zero h = refl
number_back (suc zero) h = refl
number_back (suc (suc n)) h = absurd (omega arith)

-- of these two it is the rule that is named
pub named_of : (n : ℕ) → n ≤ 1 → rule_named n ≡ Ok (rule_of n)
unfolding rule_named rule_of pick
named_of zero h = refl
named_of (suc zero) h = refl
named_of (suc (suc n)) h = absurd (omega arith)

-- a number that is taken is the number of its rule, and one that is refused is no rule's
pub named_back : (r : Rule) → rule_named (rule_number r) ≡ Ok r
unfolding rule_named pick
named_back A = refl
named_back B = refl

pub number_named : (n : ℕ) (r : Rule) → Ok r ≡ rule_named n → n ≡ rule_number r
unfolding rule_named pick
number_named zero A e = refl
number_named zero B e = cc
number_named (suc zero) A e = cc
number_named (suc zero) B e = refl
number_named (suc (suc n)) r e =
    let past = rw (ne_eqb (suc (suc n)) 0 (λ h. omega arith), ne_eqb (suc (suc n)) 1 (λ h. omega arith)) at e in
    cc

pub no_number : (n : ℕ) (why : Refusal) → Err why ≡ rule_named n → (r : Rule) → n ≢ rule_number r
no_number n why e r is = let back = named_back r in let z : ◌≡◌ {A = Answer Rule} (Err why) (Ok r) = e ∙ ap rule_named is ∙ back in cc

pub refused_22 : (n : ℕ) (why : Refusal) → Err why ≡ rule_named n → why ≡ refusal_at (by 22) 0
unfolding rule_named pick
refused_22 zero why e = cc
refused_22 (suc zero) why e = cc
refused_22 (suc (suc n)) why e =
    let past = rw (ne_eqb (suc (suc n)) 0 (λ h. omega arith), ne_eqb (suc (suc n)) 1 (λ h. omega arith)) at e in
    cc

pub one_rule : (r r' : Rule) → rule_number r ≡ rule_number r' → r ≡ r'
one_rule A A e = refl
one_rule A B e = absurd (omega arith)
one_rule B A e = absurd (omega arith)
one_rule B B e = refl

-- ---- usable deadlines
pub usable_most : (r : Rule) (d : ℕ) → usable_under r d ≤ d
unfolding usable_under
usable_most A d = omega arith
usable_most B d = omega arith

-- a lower deadline has no higher usable deadline
pub under_lower : (r : Rule) (d e : ℕ) → d ≤ e → usable_under r d ≤ usable_under r e
unfolding usable_under
under_lower A d e h = h
under_lower B d e h = omega arith

pub usable_lower : (b b' : Board) → b'.rule ≡ b.rule → b'.deadline.0 ≤ b.deadline.0 → usable b' ≤ usable b
unfolding usable
usable_lower b b' same h = rw same (under_lower b.rule b'.deadline.0 b.deadline.0 h)

pub usable_same : (b b' : Board) → b'.rule ≡ b.rule → b'.deadline ≡ b.deadline → usable b' ≡ usable b
unfolding usable
usable_same b b' same e = rw (same, e)

pub usable_to : (b : Board) → WellFormed b → usable b ≤ 4095
unfolding usable
usable_to b w = omega (arith, usable_most b.rule b.deadline.0, w.deadline_to)

-- 02, Req 06: "Deadline 63 leaves 63, 64 leaves 63, 128 leaves 126."
pub guard_63 : usable_under B 63 ≡ 63
unfolding usable_under
guard_63 = refl

pub guard_64 : usable_under B 64 ≡ 63
unfolding usable_under
guard_64 = refl

pub guard_128 : usable_under B 128 ≡ 126
unfolding usable_under
guard_128 = refl

pub guard_1 : usable_under B 1 ≡ 1
unfolding usable_under
guard_1 = refl

pub guard_127 : usable_under B 127 ≡ 126
unfolding usable_under
guard_127 = refl

pub guard_4095 : usable_under B 4095 ≡ 4032
unfolding usable_under
guard_4095 = refl

-- "Rule A, all ticks usable": of every deadline
pub all_usable : (d : ℕ) → usable_under A d ≡ d
unfolding usable_under
all_usable d = refl

-- ---- a board under another rule
pub under_well : (rule : Rule) (b : Board) → WellFormed b → WellFormed (under_rule rule b)
unfolding under_rule
under_well rule b w = record {
  deadline_from = w.deadline_from;
  deadline_to = w.deadline_to;
  parts_from = w.parts_from;
  parts_to = w.parts_to;
  curves = w.curves;
  links_to = w.links_to;
  from_in = w.from_in;
  to_in = w.to_in;
  apart = w.apart;
  plain = w.plain;
  ascends = w.ascends;
  blank_curves = w.blank_curves;
  blank_links = w.blank_links;
  curve_room = w.curve_room;
  link_room = w.link_room;
}
