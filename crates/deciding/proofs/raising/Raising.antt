-- Raising in the sheets.
-- Assumes nothing.
use mathlib.Core.Path.{◌≡◌, refl, ◌∙◌}
use mathlib.Core.Logic.{◌≢◌}
use mathlib.Core.Bool.{Bool, true, false, ◌||◌}
use mathlib.Core.List.{List}
use Rattle.std.specs.Prelude.{Option, Some, None}
use Rattle.std.specs.Option.{is_some}
use Rattle.std.proofs.lemmas.List.{length-replicate}
use Prim.Native.Nat.{ℕ, ◌+◌, ◌≤◌, ◌<◌}
use native.Mathlib.Omega.{arith}
use native.Mathlib.Decide.{ℕ_discrete}
use lib.ListN.{length, set, replicate}
use Rattle.theory.specs.Sum.{cells}
use Rattle.theory.proofs.SumLaws.{below_suc}
use Rattle.nets.specs.declared.Net.{Net}
use Rattle.nets.specs.Flow.{Fit}
use Rattle.nets.specs.Sheet.{net_in, gain_in, BendsIn}
use Rattle.nets.specs.Steps.{Put}
use Rattle.nets.proofs.Steps.{put_cell, fill_cell}
use Rattle.deciding.specs.Asking.{Early, Says, Lags, PlacedIn, ends_in, AsksIn}
use Rattle.deciding.specs.Raising.{FairIn, Within, RisesIn, FitIn, HopelessIn, GivenIn, FollowingIn, SweepingIn, RestingIn, RaisedIn, DecidedIn, left, Raised}
use Rattle.deciding.specs.declared.asking.Ends.{Ends}
use Rattle.deciding.specs.declared.asking.Raise.{Raise}
use Rattle.deciding.proofs.asking.Asking.{ends_early, says_asks}
use Rattle.deciding.proofs.Rising.{no_one, raised_none, hopeless_source, hopeless_past, raised_one, raised_more, raised_still, rises_then, hopeless_from, left_less, decided_no, decided_yes}

or-true : (r : Bool) → (r || true) ≡ true
or-true true = refl
or-true false = refl

or-false : (r : Bool) → (r || false) ≡ r
or-false true = refl
or-false false = refl

module _ (net : Net) (x : List ℕ) (due : ℕ) where
  -- ---- one arc
  module _ (t : List ℕ) (a : ℕ) (f : FairIn net due) (w : Within due t) where
    pub settle_past : net.arcs ≤ a → GivenIn net x due t a t false
    settle_past l = record { raised = raised_none (net_in net) (cells x) due (cells t) w.within; quiet = λ e h. absurd (omega arith) }

    module _ (h : a < net.arcs) where
      pub settle_placed : PlacedIn net t a
      settle_placed =
          let i : cells net.tail a < 130 = f.sound.tail_in a h in
          let j : cells net.head a < 130 = f.sound.head_in a h in
          record {
            arc_in = omega (arith, f.sound.few);
            tail_in = i;
            head_in = j;
            base_most = (f.curved.bends a h).short;
            tail_most = omega (arith, w.within (cells net.tail a) i, f.due_most);
            head_most = omega (arith, w.within (cells net.head a) j, f.due_most);
            bends = f.curved.bends a h;
          }

      pub settle_bends : BendsIn net a
      settle_bends = f.curved.bends a h

      module _ (k : Ends) (is : k ≡ ends_in net t x a) where
        pub settle_early : Early k
        settle_early = rw is (ends_early net t x a settle_placed)

        module _ (o : Option Raise) (s : Says (gain_in net a) k o) where
          asks : AsksIn net t x a o
          asks = says_asks net t x a settle_placed o (rw is at s)

          pub settle_quiet : o ≡ None → GivenIn net x due t a t false
          unfolding AsksIn FitIn
          settle_quiet e =
              let q : Fit (net_in net) (cells t) (cells x) a = rw e at asks in
              record { raised = raised_none (net_in net) (cells x) due (cells t) w.within; quiet = λ z k. q }

          module _ (r : Raise) (e : o ≡ Some r) where
            lags : Lags (net_in net) (cells x) (cells t) a r
            unfolding AsksIn
            lags = rw e at asks

            pub settle_node : r.node < 130
            settle_node = lags.node

            pub settle_source : r.node ≡ 128 → HopelessIn net x due t
            unfolding HopelessIn
            settle_source i = hopeless_source (net_in net) (cells x) due (cells t) w.within a h r lags i

            pub settle_late : due < r.time → HopelessIn net x due t
            unfolding HopelessIn
            settle_late m = hopeless_past (net_in net) (cells x) due (cells t) w.within a h r lags m

            pub settle_raised : length t ≡ 130 → (r.node ≡ 128 → ⊥) → r.time ≤ due → GivenIn net x due t a (set t r.node r.time) true
            settle_raised long n m = record {
              raised = raised_one (net_in net) (cells x) due (cells t) w.within a h r lags n m _ (put_cell 130 t r.node r.time long lags.node);
              quiet = λ z. no_one z;
            }

  -- ---- many arcs
  module _ (t t' t'' : List ℕ) where
    rises_on : RisesIn net x due t t' → RisesIn net x due t' t'' → RisesIn net x due t t''
    unfolding RisesIn
    rises_on f g = rises_then (net_in net) (cells x) due _ _ _ f g

  -- what was raised has risen
  rises_of : (t t' : List ℕ) (r : Bool) → Raised (net_in net) (cells x) due (cells t) (cells t') r → RisesIn net x due t t'
  unfolding RisesIn
  rises_of t t' r f = f.rises

  hopeless_on : (t t' : List ℕ) → RisesIn net x due t t' → HopelessIn net x due t' → HopelessIn net x due t
  unfolding RisesIn HopelessIn
  hopeless_on t t' f n = hopeless_from (net_in net) (cells x) due _ _ f n

  -- ---- the arcs that stand in the sheet
  module _ (t : List ℕ) where
    pub follow_begins : Within due t → FollowingIn net x due t t
    follow_begins w = record { rises = rises_of t t false (raised_none (net_in net) (cells x) due (cells t) w.within); within = w }

    module _ (t' : List ℕ) (f : FollowingIn net x due t t') where
      pub follow_fails : HopelessIn net x due t' → HopelessIn net x due t
      follow_fails n = hopeless_on t t' f.rises n

      pub follow_more : (a : ℕ) (t'' : List ℕ) (r : Bool) → GivenIn net x due t' a t'' r → FollowingIn net x due t t''
      follow_more a t'' r g =
          record { rises = rises_on t t' t'' f.rises (rises_of t' t'' r g.raised); within = record { within = g.raised.rises.within } }

  -- ---- all arcs
  module _ (t : List ℕ) where
    pub sweep_begins : Within due t → SweepingIn net x due t 0 t false
    sweep_begins w = record { raised = raised_none (net_in net) (cells x) due (cells t) w.within; quiet = λ e a h. absurd (omega arith) }

    module _ (n : ℕ) (t' : List ℕ) (r : Bool) (f : SweepingIn net x due t n t' r) where
      pub sweep_within : Within due t'
      sweep_within = record { within = f.raised.rises.within }

      pub sweep_ends : n ≤ net.arcs → net.arcs ≤ n → SweepingIn net x due t net.arcs t' r
      sweep_ends l h = let k : n ≡ net.arcs = omega arith in rw k at f

      pub sweep_fails : HopelessIn net x due t' → HopelessIn net x due t
      sweep_fails h = hopeless_on t t' (rises_of t t' r f.raised) h

      module _ (t'' : List ℕ) where
        -- where nothing was raised, the arcs behind fit still
        still : GivenIn net x due t' n t'' false → n < net.arcs → SweepingIn net x due t (n + 1) t'' r
        unfolding FitIn
        still k h =
            let same : (v : ℕ) → cells t'' v ≡ cells t' v = k.raised.same refl in
            record {
              raised = raised_still (net_in net) (cells x) due _ _ _ r f.raised k.raised;
              quiet = λ y b l.
                  below_suc {P = λ b. Fit (net_in net) (cells t'') (cells x) b}
                  (λ b m.
                  let i : Fit (net_in net) (cells t') (cells x) b = f.quiet y b m in
                  record {
                    base = omega (arith, i.base, same (cells net.tail b), same (cells net.head b));
                    suits = rw (same (cells net.tail b), same (cells net.head b)) i.suits;
                  })
                  (k.quiet refl h) b (omega arith);
            }

        more : GivenIn net x due t' n t'' true → SweepingIn net x due t (n + 1) t'' true
        more k = record { raised = raised_more (net_in net) (cells x) due _ _ _ r f.raised k.raised; quiet = λ y. no_one y }

        pub sweep_more : (s : Bool) → GivenIn net x due t' n t'' s → n < net.arcs → SweepingIn net x due t (n + 1) t'' (r || s)
        sweep_more true k h = rw (or-true r) (more k)
        sweep_more false k h = rw (or-false r) (still k h)

  -- ---- sweeps
  module _ (t t' : List ℕ) (f : FollowingIn net x due t t') (t'' : List ℕ) (r : Bool) (g : SweepingIn net x due t' net.arcs t'' r) where
    pub raise_more : FollowingIn net x due t t''
    raise_more = record { rises = rises_on t t' t'' f.rises (rises_of t' t'' r g.raised); within = record { within = g.raised.rises.within } }

    pub raise_less : r ≡ true → left due t'' < left due t'
    unfolding left
    raise_less z = let s : Raised (net_in net) (cells x) due (cells t') (cells t'') true = rw z at g.raised in left_less (net_in net) (cells x) due _ _ s

    pub raise_ends : r ≡ false → RestingIn net x due t t''
    unfolding FitIn
    raise_ends z = record { rises = raise_more.rises; fits = g.quiet z }

  -- ---- the verdict: all times 0 and the sink's the deadline, then the arcs that were given, then sweeps
  module _ (t₀ t₁ : List ℕ) (long : length t₀ ≡ 130) (is : t₁ ≡ replicate (length t₀) 0) where
    abbrev start : List ℕ
    start = set t₁ 129 due

    long₁ : length t₁ ≡ 130
    long₁ = rw is (length-replicate (length t₀) 0 ∙ long)

    begun : Put (cells t₁) 129 due (cells start)
    begun = put_cell 130 t₁ 129 due long₁ (omega arith)

    others : (v : ℕ) → v < 130 → v ≢ 129 → cells start v ≡ 0
    others v h d = begun.there v d ∙ fill_cell 130 t₀ t₁ 0 long is v h

    pub start_within : Within due start
    start_within = record { within = λ v h. elim (ℕ_discrete v 129) [ yes e ↦ rw e (omega (arith, begun.here)) | no d ↦ omega (arith, others v h d) ] }

    module _ (t : List ℕ) where
      verdict : (o : Option Unit) → RaisedIn net x due start t o → DecidedIn net x due t (is_some o)
      unfolding RisesIn HopelessIn DecidedIn
      verdict (Some u) r = decided_yes (net_in net) (cells x) due (cells start) (cells t) begun.here others r.rises r.fits
      verdict None n = decided_no (net_in net) (cells x) due (cells start) (cells t) begun.here others n

      pub decide_ends : (o : Option Unit) (r : Bool) → RaisedIn net x due start t o → r ≡ is_some o → DecidedIn net x due t r
      decide_ends o r s e = rw e (verdict o s)
