-- The ways of `answer`, and loads and times by the main loop.
-- Assumes nothing.
use mathlib.Core.Path.{◌≡◌, refl, sym, ◌∙◌}
use mathlib.Core.Bool.{Bool, true, false}
use mathlib.Core.List.{List}
use Prim.Native.Nat.{ℕ, ◌<◌}
use native.Mathlib.Omega.{arith}
use native.Mathlib.Decide.{ℕ_discrete}
use lib.ListN.{length, replicate}
use Rattle.theory.specs.Sum.{share, into, cells}
use Rattle.theory.proofs.SumLaws.{sum_ext, sum_zero, share_eq, share_ne}
use Rattle.nets.specs.declared.Net.{Net}
use Rattle.nets.specs.declared.Work.{Work}
use Rattle.nets.specs.Flow.{World, First, Never}
use Rattle.nets.specs.Sheet.{net_in, GoodIn, WideIn}
use Rattle.nets.proofs.Steps.{fill_cell, flows_not_never}
use Rattle.mainloop.specs.Crashing.{CrashedIn}
use Rattle.deciding.specs.Raising.{DecidedIn}
use Rattle.deciding.specs.Balancing.{SheetIn, BalancedIn}
use Rattle.deciding.specs.Finding.{PreparedIn, ProvesIn, AnsweredIn}
use Rattle.deciding.proofs.Rising.{no_one}

module _ (net : Net) (due : ℕ) (w : Work) (s : List ℕ) where
  pub answer_no : BalancedIn net w.load false → AnsweredIn net due w (record w { room = s }) false
  answer_no f = record { loads = refl; yes = λ z. no_one (sym z); no = λ z t. absurd (f.no refl t) }

  pub answer_decides : BalancedIn net w.load true → (t : List ℕ) (r : Bool) → DecidedIn net w.load due t r →
      AnsweredIn net due w (record w { time = t; room = s }) r
  unfolding DecidedIn
  answer_decides f t r d = record {
    loads = refl;
    yes = λ z. record { sheet = f.yes refl; first = d.yes z };
    no = λ z y. d.no z;
  }

-- ---- where the main loop begins
share_none : (p i : ℕ) → share p i 0 ≡ 0
share_none p i = elim (ℕ_discrete p i) [ yes e ↦ share_eq 0 e | no d ↦ share_ne 0 d ]

-- nothing comes anywhere
nothing : (n : ℕ) (end x : ℕ → ℕ) (v : ℕ) → ((a : ℕ) → a < n → x a ≡ 0) → into n end x v ≡ 0
unfolding into
nothing n end x v z = sum_ext n (λ a h. rw (z a h) (share_none (end a) v)) ∙ sum_zero n

module _ (net : Net) (due : ℕ) (p : PreparedIn net due) where
  pub begin_good : (w : Work) (x₀ : List ℕ) → length x₀ ≡ 448 → w.load ≡ replicate (length x₀) 0 → w.time ≡ net.late → GoodIn net w
  unfolding GoodIn
  begin_good w x₀ long none late =
      let z : (a : ℕ) → a < net.arcs → cells w.load a ≡ 0 = λ a h. fill_cell 448 x₀ w.load 0 long none a (omega (arith, p.fair.sound.few)) in
      rw late (record {
        flows = record {
          fit = λ a h. record { base = (p.fit a h).base; suits = rw (z a h) (p.fit a h).suits };
          root = p.root;
          balanced = record { balance = λ v h. nothing net.arcs (cells net.head) (cells w.load) v z ∙ sym (nothing net.arcs (cells net.tail) (cells w.load) v z) };
        };
        early = p.early;
        small = λ a h. omega (arith, z a h);
      })

  -- ---- after the main loop the verdict is yes: its own times fit, begin at 0 and end at the deadline
  module _ (w w₁ : Work) (late : w.time ≡ net.late) (c : CrashedIn net due w w₁) where
    ended : cells w₁.time 129 ≡ due
    ended = c.crashed.end (rw late p.late)

    world : World (net_in net) due
    unfolding WideIn
    world = p.wide.world

    fitted : Never (net_in net) due (cells w₁.load) → ⊥
    fitted = flows_not_never (net_in net) due (cells w₁.load) world (cells w₁.time) c.crashed.good.flows ended

    taken : (t : List ℕ) (r : Bool) → DecidedIn net w₁.load due t r → First (net_in net) due (cells w₁.load) (cells t)
    unfolding DecidedIn
    taken t true d = d.yes refl
    taken t false d = absurd (fitted (d.no refl))

    pub late_proves : (t : List ℕ) (r : Bool) → DecidedIn net w₁.load due t r → ProvesIn net due (record w₁ { time = t })
    unfolding SheetIn
    late_proves t r d = record {
      sheet = record { small = c.crashed.good.small; balanced = c.crashed.good.flows.balanced };
      first = taken t r d;
    }
