-- Two answers that a question's contract allows are equal.
-- Assumes nothing.
use mathlib.Core.Path.{◌≡◌, sym, ap, ◌∙◌}
use Prim.Native.Nat.{ℕ, ◌<◌}
use lib.Count.{ones}
use Rattle.std.specs.Prelude.{Option, Ok, Err, IsOkAnd}
use Rattle.refusal.specs.Refusal.{Answer}
use Rattle.curve.specs.declared.Microwatts.{Microwatts}
use Rattle.marks.specs.Marks.{Exactly}
use Rattle.marks.proofs.Bits.{exactly_once}
use Rattle.board.specs.Leads.{Reach}
use Rattle.kin.specs.declared.Kin.{Kin}
use Rattle.kin.proofs.KinLaws.{kin_once}
use Rattle.desk.specs.declared.Held.{Held}
use Rattle.desk.specs.declared.Desk.{Desk}
use Rattle.desk.specs.Held.{Standing, held_in}
use Rattle.questions.specs.declared.Marked.{Marked}
use Rattle.questions.specs.declared.FamilyHeld.{FamilyHeld}
use Rattle.questions.specs.declared.PartHeld.{PartHeld}
use Rattle.questions.specs.declared.LinkHeld.{LinkHeld}
use Rattle.questions.specs.Tried.{part_tried, Said}
use Rattle.questions.specs.Sets.{ConeGiven, UpstreamSaid, DownstreamSaid, CriticalIn, kin_in, FamilyGiven, FamilySaid}
use Rattle.questions.specs.Numbers.{PowerSaid, PartSaid}
use Rattle.questions.specs.Links.{LinkSaid}

-- ---- one law for every question: where what it asks for is one value, so is its answer
said_once :
    {R : Type 0} (d : Desk) (Is : Held → Answer R → Type 0) → ((held : Held) (r r' : Answer R) → Is held r → Is held r' → r ≡ r') → Standing d →
    (trial : Answer Held) (r r' : Answer R) → Said trial d Is r → Said trial d Is r' → r ≡ r'
said_once d Is once st (Err e) r r' x y = x ∙ sym y
said_once d Is once st (Ok held) r r' x y = once held r r' (x st) (y st)

-- the contract of `whole` is an equation, and this is the law for it
pub equal_once : {R : Type 0} (v r r' : R) → r ≡ v → r' ≡ v → r ≡ r'
equal_once v r r' x y = x ∙ sym y

-- what is given is one value, and so is the answer that gives it
given_once : {R : Type 0} (P : R → Type 0) → ((x y : R) → P x → P y → x ≡ y) → (r r' : Answer R) → IsOkAnd r P → IsOkAnd r' P → r ≡ r'
given_once P once (Ok x) (Ok y) p q = ap Ok (once x y p q)
given_once P once (Ok x) (Err e) p q = absurd q
given_once P once (Err e) r' p q = absurd p

counted_same : (m m' : Marked) → m.count ≡ ones m.set → m'.count ≡ ones m'.set → m.set ≡ m'.set → m ≡ m'
counted_same m m' x y e =
    let n : m.count ≡ m'.count = x ∙ ap ones e ∙ sym y in
    ap (λ (s : ℕ). record { set = s; count = m.count }) e ∙ ap (λ (k : ℕ). record { set = m'.set; count = k }) n

cone_once : (R : ℕ → Type 0) (m m' : Marked) → ConeGiven (λ s. Exactly R s) m → ConeGiven (λ s. Exactly R s) m' → m ≡ m'
cone_once R m m' x y = counted_same m m' x.count y.count (exactly_once R m.set m'.set x.set y.set)

family_once : (held : Held) (p : ℕ) (f f' : FamilyHeld) → FamilyGiven held p f → FamilyGiven held p f' → f ≡ f'
family_once held p f f' x y =
    let kin : kin_in f ≡ kin_in f' = kin_once (CriticalIn held) p (kin_in f) (kin_in f') x.sets y.sets in
    let parents : f.parents ≡ f'.parents = counted_same f.parents f'.parents x.parent_count y.parent_count (ap (λ (k : Kin). k.parents) kin) in
    let children : f.children ≡ f'.children = counted_same f.children f'.children x.child_count y.child_count (ap (λ (k : Kin). k.children) kin) in
    ap (λ (m : Marked). record { parents = m; children = f.children }) parents ∙ ap (λ (m : Marked). record { parents = f'.parents; children = m }) children

-- ---- the questions
module _ (d : Desk) (st : Standing d) where
  pub upstream_once : (p : ℕ) (r r' : Answer Marked) → UpstreamSaid d p r → UpstreamSaid d p r' → r ≡ r'
  unfolding UpstreamSaid
  upstream_once p =
      said_once d _ (λ held. given_once _ (cone_once (λ q. (q < 64) × Reach held.board q p))) st (part_tried d p)

  pub downstream_once : (p : ℕ) (r r' : Answer Marked) → DownstreamSaid d p r → DownstreamSaid d p r' → r ≡ r'
  unfolding DownstreamSaid
  downstream_once p =
      said_once d _ (λ held. given_once _ (cone_once (λ q. (q < 64) × Reach held.board p q))) st (part_tried d p)

  pub families_once : (p : ℕ) (r r' : Answer FamilyHeld) → FamilySaid d p r → FamilySaid d p r' → r ≡ r'
  unfolding FamilySaid
  families_once p = said_once d _ (λ held. given_once _ (family_once held p)) st (part_tried d p)

  pub power_once : (p delay : ℕ) (r r' : Answer Microwatts) → PowerSaid d p delay r → PowerSaid d p delay r' → r ≡ r'
  unfolding PowerSaid
  power_once p delay = said_once d _ (λ held. equal_once _) st (part_tried d p)

  pub part_once : (p : ℕ) (r r' : Answer PartHeld) → PartSaid d p r → PartSaid d p r' → r ≡ r'
  unfolding PartSaid
  part_once p = said_once d _ (λ held. equal_once _) st (part_tried d p)

  pub link_once : (l : ℕ) (r r' : Answer (Option LinkHeld)) → LinkSaid d l r → LinkSaid d l r' → r ≡ r'
  unfolding LinkSaid
  link_once l = said_once d _ (λ held. equal_once _) st (held_in d)
