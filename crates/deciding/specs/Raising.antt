-- Raising: from all times at 0 and the sink at the deadline nodes are raised as the arcs ask and no further, until no arc asks, or one asks what cannot
-- be had. So the times are below all that fit, and where no arc asks they fit: the first. Raising writes times and nothing else.
-- Assumes nothing.
use Rattle.std.specs.Prelude.{◌≡◌, Bool, true, false, List, Option, Some, None, ℕ, ◌*◌, ◌-◌, ◌≤◌, ◌<◌}
use Rattle.theory.specs.Sum.{sum, cells}
use Rattle.nets.specs.declared.Net.{Net}
use Rattle.nets.specs.Network.{Network}
use Rattle.nets.specs.Flow.{Fit, Decided}
use Rattle.nets.specs.Sheet.{SoundIn, CurvedIn, net_in}
use Rattle.deciding.specs.Asking.{Below}

module _ (N : Network) (x : ℕ → ℕ) where
  abbrev pub AllFit : (ℕ → ℕ) → Type 0
  AllFit t = (a : ℕ) → a < N.arcs → Fit N t x a

  module _ (due : ℕ) where
    -- times go up, no further than all later times that fit, and not past the deadline
    pub record Rises (t t' : ℕ → ℕ) : Type 0 where
      pub above : Below t t'
      pub least : (u : ℕ → ℕ) → AllFit u → Below t u → Below t' u
      pub within : (v : ℕ) → v < 130 → t' v ≤ due
      pub root : t' 128 ≡ t 128

    -- no times from t on fit that leave the source where it is and end by the deadline
    pub record Hopeless (t : ℕ → ℕ) : Type 0 where
      pub hopeless : (u : ℕ → ℕ) → AllFit u → Below t u → u 128 ≤ t 128 → ((a : ℕ) → a < N.arcs → u (N.head a) ≤ due) → ⊥

    -- some arcs were given what they ask for, and maybe a time was raised
    pub record Raised (t t' : ℕ → ℕ) (r : Bool) : Type 0 where
      pub rises : Rises t t'
      pub same : r ≡ false → (v : ℕ) → t' v ≡ t v
      pub grew : r ≡ true → sum 130 t < sum 130 t'

-- ---- in the sheets
-- a network with any loads, and a deadline that is not late
pub record FairIn (net : Net) (due : ℕ) : Type 0 where
  pub sound : SoundIn net
  pub curved : CurvedIn net
  pub due_most : due ≤ 4095

pub record Within (due : ℕ) (t : List ℕ) : Type 0 where
  pub within : (v : ℕ) → v < 130 → cells t v ≤ due

module _ (net : Net) (x : List ℕ) (due : ℕ) (t : List ℕ) where
  unfoldable pub RisesIn : List ℕ → Type 0
  RisesIn t' = Rises (net_in net) (cells x) due (cells t) (cells t')

  unfoldable pub FitIn : List ℕ → ℕ → Type 0
  FitIn t' a = Fit (net_in net) (cells t') (cells x) a

  unfoldable pub HopelessIn : Type 0
  HopelessIn = Hopeless (net_in net) (cells x) due (cells t)

  -- arc a was given what it asks for
  pub record GivenIn (a : ℕ) (t' : List ℕ) (r : Bool) : Type 0 where
    pub raised : Raised (net_in net) (cells x) due (cells t) (cells t') r
    pub quiet : r ≡ false → a < net.arcs → FitIn t' a

  -- or it cannot be had
  abbrev pub SettledIn : ℕ → List ℕ → Option Bool → Type 0
  SettledIn a t' (Some r) = GivenIn a t' r
  SettledIn a t' None = HopelessIn

  pub record FollowingIn (t' : List ℕ) : Type 0 where
    pub rises : RisesIn t'
    pub within : Within due t'

  abbrev pub FollowedIn : List ℕ → Option Unit → Type 0
  FollowedIn t' (Some r) = FollowingIn t'
  FollowedIn t' None = HopelessIn

  -- the first n arcs
  pub record SweepingIn (n : ℕ) (t' : List ℕ) (r : Bool) : Type 0 where
    pub raised : Raised (net_in net) (cells x) due (cells t) (cells t') r
    pub quiet : r ≡ false → (a : ℕ) → a < n → FitIn t' a

  abbrev pub SweptIn : List ℕ → Option Bool → Type 0
  SweptIn t' (Some r) = SweepingIn net.arcs t' r
  SweptIn t' None = HopelessIn

  -- the times that all arcs asked for
  pub record RestingIn (t' : List ℕ) : Type 0 where
    pub rises : RisesIn t'
    pub fits : AllFit (net_in net) (cells x) (cells t')

  abbrev pub RaisedIn : List ℕ → Option Unit → Type 0
  RaisedIn t' (Some r) = RestingIn t'
  RaisedIn t' None = HopelessIn

unfoldable pub DecidedIn : Net → List ℕ → ℕ → List ℕ → Bool → Type 0
DecidedIn net x due t r = Decided (net_in net) due (cells x) (cells t) r

-- what is left to do: ticks to raise
unfoldable pub left : ℕ → List ℕ → ℕ
left due t = 130 * due - sum 130 (cells t)
