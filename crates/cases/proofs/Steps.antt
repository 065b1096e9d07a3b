-- Each kind of step, from a desk that holds a board whose facts are known.
-- Assumes nothing.
use mathlib.Core.Path.{◌≡◌, refl, sym, ap, ◌∙◌, subst}
use mathlib.Core.Bool.{true}
use mathlib.Core.List.{List}
use Prim.Native.Nat.{ℕ, ◌<◌}
use lib.Count.{ones}
use lib.Dec.{ltb, leb}
use lib.ListN.{length}
use borrow.Author.Tests.{lt-ltb, leb-true, ltb-true}
use Rattle.base.specs.Pick.{pick}
use Rattle.curve.specs.declared.Ticks.{Ticks}
use Rattle.curve.specs.Rows.{ticks_at}
use Rattle.refusal.specs.Refusal.{Answer}
use Rattle.std.specs.Prelude.{Some, Ok, IsSomeAnd, IsOkAnd}
use Rattle.curve.specs.declared.Microwatts.{Microwatts}
use Rattle.desk.specs.declared.Held.{Held}
use Rattle.curve.specs.Answers.{power_at_of}
use Rattle.curve.specs.Tests.{every}
use Rattle.curve.proofs.GoodLaws.{every_at}
use Rattle.board.specs.declared.Board.{Board}
use Rattle.board.specs.Board.{curve_at, usable, view}
use Rattle.cone.specs.Cone.{Upstream, Downstream}
use Rattle.cone.specs.Sweeps.{upstream_of, downstream_of}
use Rattle.cone.proofs.Cones.{upstream_is, downstream_is}
use Rattle.kin.specs.Critical.{Critical}
use Rattle.kin.specs.Kin.{KinOf}
use Rattle.budget.specs.declared.Budget.{Budget}
use Rattle.budget.specs.Made.{value_of}
use Rattle.budget.proofs.BudgetLaws.{value_allowed}
use Rattle.desk.specs.declared.Tally.{Tally}
use Rattle.desk.specs.declared.Desk.{Desk}
use Rattle.desk.specs.declared.Ordered.{Ordered}
use Rattle.desk.specs.Held.{Standing, holding}
use Rattle.questions.specs.Tried.{part_tried, Said}
use Rattle.questions.specs.Sets.{ConeGiven, UpstreamSaid, DownstreamSaid, FamilyGiven, FamilySaid}
use Rattle.questions.specs.Numbers.{PowerSaid}
use Rattle.questions.proofs.QuestionLaws.{upstream_once, downstream_once, families_once, power_once}
use Rattle.cases.specs.Promised.{padded, Shows, Another, Answers, marks, cone_is, family_is, OrderMade, OrderRefused, Counts}
use Rattle.cases.proofs.Best.{ends_of, times_by, fits, fits_budget}
use Rattle.cases.proofs.Judged.{Known, known_formed, At, at_budget, Made, Turned}

-- the budget that was worked out
abbrev pub worked : Board → List ℕ → Budget
worked b delays = value_of b (times_by (view b) delays)

-- ---- a budget that shows these numbers
pub shows_is :
    {r : Budget} {delays ends : List ℕ} {total : ℕ} → r.delay ≡ padded delays → r.end ≡ padded ends → r.total.0 ≡ total →
    Shows r delays ends total
shows_is delays ends total = record { delays_are = delays; ends_are = ends; total_is = total }

-- ---- another budget, by its own test and by comparison place by place
module _ (b : Board) (delays : List ℕ) (k : Known b delays) (others : List ℕ) where
  abbrev held_ends : List Ticks
  held_ends = (worked b delays).end

  abbrev other_ends : List Ticks
  other_ends = (worked b others).end

  pub another_is :
      fits (view b) (usable b) others (ends_of (view b) others) ≡ true → (ends : List ℕ) (total : ℕ) → Shows (worked b others) others ends total →
      (worked b others).total.0 ≡ (worked b delays).total.0 → every 64 (λ p. leb (ticks_at held_ends p) (ticks_at other_ends p)) ≡ true → (part : ℕ) →
      ltb (ticks_at held_ends part) (ticks_at other_ends part) ≡ true → Another b (worked b delays) others ends total
  another_is fit ends total shows same none_earlier part later = record {
    other = worked b others;
    allowed = value_allowed b (known_formed b delays k) (times_by (view b) others) (fits_budget (view b) (usable b) others fit);
    shows = shows;
    same = same;
    arrives = record {
      none_earlier = λ p h. leb-true _ _ (every_at (λ p. leb (ticks_at held_ends p) (ticks_at other_ends p)) 64 none_earlier p h);
      part = part;
      later = ltb-true _ _ later;
    };
  }

-- a part that is on the board held may be asked for
tried_on : (d : Desk) (h : Held) (part : ℕ) → d.held ≡ Some h → part < h.board.parts → part_tried d part ≡ Ok h
unfolding part_tried pick
tried_on d h part is here = rw (is, lt-ltb part h.board.parts here)

-- ---- what is held
module _ {b : Board} {n : Tally} {d : Desk} {t : Tally} (at : At b n d t) where
  abbrev held : Held
  held = at.holding.held

  -- what holds of the board and the budget that was worked out holds of what is held
  module _ {delays : List ℕ} (k : Known b delays) where
    held_step : (P : Board → Budget → Type 0) → P b (worked b delays) → P held.board held.budget
    held_step P is =
        subst (λ (x : Board). P x held.budget) (sym at.board)
        (subst (λ (r : Budget). P b r) (sym (at_budget b delays k at)) is)

    some_step : (P : Board → Budget → Type 0) → P b (worked b delays) → IsSomeAnd d.held (λ h. P h.board h.budget)
    some_step P is = rw at.holding.is (held_step P is)

    pub holds_step : {ds ends : List ℕ} {total : ℕ} → Shows (worked b delays) ds ends total → IsSomeAnd d.held (λ h. Shows h.budget ds ends total)
    holds_step {ds} {ends} {total} = some_step (λ x r. Shows r ds ends total)

    pub also_step :
        {ds ends : List ℕ} {total : ℕ} → Another b (worked b delays) ds ends total → IsSomeAnd d.held (λ h. Another h.board h.budget ds ends total)
    also_step {ds} {ends} {total} = some_step (λ x r. Another x r ds ends total)

  pub counts_are : Counts t n.taken n.refused
  counts_are = record { taken_are = ap (λ (x : Tally). x.taken) at.tally; refused_are = ap (λ (x : Tally). x.refused) at.tally }

  -- ---- questions: an answer that is allowed is the only one
  stands : Standing d
  stands = holding at.holding

  module _ {part : ℕ} (here : part < b.parts) where
    there : part < held.board.parts
    there = rw at.board here

    asked : part_tried d part ≡ Ok held
    asked = tried_on d held part at.holding.is there

    said : {R : Type 0} (Is : Held → Answer R → Type 0) (r : Answer R) → Is held r → Said (part_tried d part) d Is r
    said {R} Is r is = subst (λ (a : Answer Held). Said a d Is r) (sym asked) (λ st. is)

    pub power_step :
        (delay : ℕ) {told : Answer Microwatts} → power_at_of (curve_at b part) delay ≡ told → Answers (PowerSaid d part delay) told
    unfolding PowerSaid
    power_step delay {told} is =
        let given : told ≡ power_at_of (curve_at held.board part) delay = sym (ap (λ (x : Board). power_at_of (curve_at x part) delay) at.board ∙ is) in
        let so = said (λ h r. r ≡ power_at_of (curve_at h.board part) delay) told given in
        record { result = told; said = so; only = λ r s. power_once d stands part delay r told s so }

    cone_given : (C : ℕ → Type 0) {found set count : ℕ} → C found → found ≡ set → ones set ≡ count → ConeGiven C (marks set count)
    cone_given C is found many = record { set = subst C found is; count = sym many }

    pub upstream_step : {set count : ℕ} → upstream_of b part ≡ set → ones set ≡ count → Answers (UpstreamSaid d part) (cone_is set count)
    unfolding UpstreamSaid
    upstream_step {set} {count} is many =
        let found = ap (λ (x : Board). upstream_of x part) at.board ∙ is in
        let given = cone_given (Upstream held.board part) (upstream_is held.board at.holding.kept.formed part) found many in
        let so = said (λ h r. IsOkAnd r (ConeGiven (Upstream h.board part))) (cone_is set count) given in
        record { result = cone_is set count; said = so; only = λ r s. upstream_once d stands part r (cone_is set count) s so }

    pub downstream_step : {set count : ℕ} → downstream_of b part ≡ set → ones set ≡ count → Answers (DownstreamSaid d part) (cone_is set count)
    unfolding DownstreamSaid
    downstream_step {set} {count} is many =
        let found = ap (λ (x : Board). downstream_of x part) at.board ∙ is in
        let given = cone_given (Downstream held.board part) (downstream_is held.board at.holding.kept.formed part) found many in
        let so = said (λ h r. IsOkAnd r (ConeGiven (Downstream h.board part))) (cone_is set count) given in
        record { result = cone_is set count; said = so; only = λ r s. downstream_once d stands part r (cone_is set count) s so }

    pub kin_step :
        {delays : List ℕ} → Known b delays → {parents children : ℕ} →
        KinOf (Critical b (worked b delays)) part (record { parents = parents; children = children }) →
        Answers (FamilySaid d part) (family_is parents children)
    unfolding FamilySaid
    kin_step k {parents} {children} is =
        let sets = held_step k (λ x r. KinOf (Critical x r) part (record { parents = parents; children = children })) is in
        let given : FamilyGiven held part (record { parents = marks parents (ones parents); children = marks children (ones children) }) =
        record { sets = sets; parent_count = refl; child_count = refl } in
        let so = said (λ h r. IsOkAnd r (FamilyGiven h part)) (family_is parents children) given in
        record { result = family_is parents children; said = so; only = λ r s. families_once d stands part r (family_is parents children) s so }

-- ---- orders
pub made_order :
    {r : Ordered} {took : ℕ} {b : Board} {n : Tally} {bytes : List ℕ} → took ≡ length bytes → Made r took b n → OrderMade bytes r
made_order all m = record { done = m.done; took_all = m.took_is ∙ all; path_is = m.path_is }

pub refused_order :
    {r : Ordered} {took ticks : ℕ} {path : List ℕ} {d : Desk} {b : Board} {n : Tally} {bytes : List ℕ} → took ≡ length bytes →
    Turned r took ticks path d b n → OrderRefused bytes d r 10 ticks path
refused_order all m = record { refused = m.refused; took_all = m.took_is ∙ all; path_is = m.path_is; desk_stays = m.desk_stays }
