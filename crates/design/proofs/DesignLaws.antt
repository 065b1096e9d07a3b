-- A design file: what is read is a well-formed board and the whole file, a well-formed board written is read back, and an accepted file is
-- rewritten byte for byte.
-- Assumes nothing.
use mathlib.Core.Path.{◌≡◌, refl, sym, ap, ◌∙◌}
use mathlib.Core.Bool.{true}
use mathlib.Core.Logic.{◌≢◌}
use mathlib.Core.List.{List, ◌++◌}
use Prim.Native.Nat.{ℕ, zero, suc, ◌+◌, ◌*◌, ◌-◌, ◌≤◌, ◌<◌}
use native.Mathlib.Omega.{arith}
use lib.Dec.{eqb}
use lib.ListN.{length, get_or, length-append}
use borrow.Author.Tests.{eqb-true, eqb-false, ltb-false, ne_eqb, le-ltb}
use Rattle.std.specs.Prelude.{Option, Some, None}
use Rattle.base.specs.Pick.{pick}
use Rattle.groups.specs.Number.{groups, number_at, encode}
use Rattle.groups.proofs.RoundTrip.{Bytes}
use Rattle.curve.specs.declared.Curve.{Curve}
use Rattle.curve.specs.Curve.{Good}
use Rattle.groups.specs.Parse.{got}
use Rattle.fields.specs.Parse.{and_then, field_at}
use Rattle.fields.specs.CurveFile.{curve_bytes}
use Rattle.fields.specs.LinkFile.{link_bytes}
use Rattle.fields.proofs.ParseLaws.{then_got, pick_passed, pick_not_stopped, read_same, got_same, field_got}
use Rattle.fields.proofs.Stands.{Stands, stands_first, stands_then, stands_join, stands_front, stands_whole, number_reads, number_stands, field_reads_back, field_stands, field_next}
use Rattle.fields.proofs.Filling.{Filling}
use Rattle.fields.proofs.WritingLaws.{row_size}
use Rattle.fields.proofs.CurveFileLaws.{curve_good, curve_next, curve_reads_back, curve_writes_back, curve_size_le, size_to_1, size_to_2}
use Rattle.board.specs.declared.Rule.{Rule}
use Rattle.board.specs.declared.Link.{Link}
use Rattle.board.specs.declared.Board.{Board}
use Rattle.board.specs.Board.{no_curve, plain_link, no_link, blank_curve, curve_at, link_at, delay_of, order, under_rule, WellFormed}
use Rattle.board.specs.Tests.{blank_curves, blank_links, below_of}
use Rattle.board.proofs.LinkLaws.{passed, link_same, below_one, below_order}
use Rattle.board.proofs.UsableLaws.{under_well}
use Rattle.design.specs.Design.{version_at, part_from, parts_from, past, above, link_from, before_of, link_in, links_from, whole_at, board_of, linked_from, body_from, head_from, design_of, parts_bytes, links_bytes, linked_bytes, body_bytes, head_bytes, file_of}
use Rattle.design.proofs.Rows.{RowRead, row_read, row_reads_back}

-- ---- the version
version_told : (s : List ℕ) (v n : ℕ) → version_at s ≡ got v n → (v ≡ 1) × (number_at s 0 ≡ got 1 n)
unfolding version_at
version_told s v n is =
    let x = then_got (number_at s 0) _ v n is in
    let p = pick_passed _ _ _ v n x.rest in
    let one : x.value ≡ 1 = eqb-true x.value 1 p.holds in
    let same = read_same x.value v x.place n p.is in
    (sym same.0 ∙ one, rw (one, same.1) at x.first)

version_reads_back : (s : List ℕ) (n : ℕ) → Stands s 0 (encode 1) n → version_at s ≡ got 1 n
unfolding version_at and_then pick
version_reads_back s n x = rw (number_reads 1 (omega arith) x)

-- ---- parts
parts_told : (s : List ℕ) (parts at : ℕ) (curve : List Curve) (n : ℕ) → parts ≤ 64 → parts_from s parts at ≡ got curve n → RowRead s no_curve blank_curve 64 at Good (λ a b. Unit {0}) curve_bytes parts curve n
unfolding parts_from part_from blank_curves
parts_told s parts at curve n few is =
    row_read s no_curve blank_curve 64 at Good (λ a b. Unit {0}) curve_bytes (part_from s)
    (λ k row m a l h before e. record {
      one = curve_good s m a l e;
      after = λ j same. tt;
      stands = λ bytes. curve_writes_back s m a l bytes e;
      within = (curve_next s m a l e).1;
    })
    parts few curve n is

parts_read_back : (s : List ℕ) (at n : ℕ) (b : Board) → WellFormed b → Stands s at (parts_bytes b b.parts) n → parts_from s b.parts at ≡ got b.curve n
unfolding parts_from part_from blank_curves parts_bytes
parts_read_back s at n b w x =
    row_reads_back s no_curve blank_curve 64 at b.curve curve_bytes (part_from s) b.parts w.parts_to
    (λ k row m l h filling y. curve_reads_back s m (get_or b.curve k no_curve) l (w.curves k h) y)
    n w.curve_room w.blank_curves x

-- ---- links
-- a link that passed the test is no self-link, and stands above the one before
above_told : (before : Option Link) (link : Link) → above before link ≡ true → (link.from ≢ link.to) × ((last : Link) → before ≡ Some last → below_of last link ≡ true)
unfolding above
above_told before link e =
    let t = passed (eqb link.from link.to) (past before link) e in
    (eqb-false link.from link.to t.0, λ last same. rw same at t.1)

above_holds : (before : Option Link) (link : Link) → link.from ≢ link.to → ((last : Link) → before ≡ Some last → below_of last link ≡ true) → above before link ≡ true
unfolding above pick
above_holds None link apart below = rw (ne_eqb link.from link.to apart)
above_holds (Some last) link apart below = rw (ne_eqb link.from link.to apart) (below last refl)

pub record Joins (parts : ℕ) (link : Link) : Type 0 where
  pub from_in : link.from < parts
  pub to_in : link.to < parts
  pub apart : link.from ≢ link.to
  pub plain : delay_of link ≡ 0

record LinkTold (s : List ℕ) (parts : ℕ) (before : Option Link) (m : ℕ) (link : Link) (n : ℕ) : Type 0 where
  joins : Joins parts link
  after : (last : Link) → before ≡ Some last → below_of last link ≡ true
  stands : Bytes s → Stands s m (link_bytes link) n
  within : n ≤ length s

told_link : (s : List ℕ) (parts : ℕ) (before : Option Link) (m from m₁ to n : ℕ) → 1 ≤ parts → field_at s 0 (parts - 1) m ≡ got from m₁ → field_at s 0 (parts - 1) m₁ ≡ got to n → above before (plain_link from to) ≡ true → LinkTold s parts before m (plain_link from to) n
unfolding delay_of
told_link s parts before m from m₁ to n some is-from is-to e =
    let f = field_got s 0 (parts - 1) m from m₁ is-from in
    let t = field_got s 0 (parts - 1) m₁ to n is-to in
    let a = above_told before (plain_link from to) e in
    record {
      joins = record { from_in = omega (arith, f.to); to_in = omega (arith, t.to); apart = a.0; plain = refl };
      after = a.1;
      stands = λ bytes. stands_join (field_stands s 0 (parts - 1) m from m₁ bytes is-from) (field_stands s 0 (parts - 1) m₁ to n bytes is-to);
      within = (field_next s 0 (parts - 1) m₁ to n is-to).1;
    }

link_told : (s : List ℕ) (parts : ℕ) (before : Option Link) (m : ℕ) (link : Link) (n : ℕ) → 1 ≤ parts → link_from s parts before m ≡ got link n → LinkTold s parts before m link n
unfolding link_from
link_told s parts before m link n some is =
    let f = then_got _ _ link n is in
    let t = then_got _ _ link n f.rest in
    let p = pick_passed _ _ _ link n t.rest in
    got_same (LinkTold s parts before m) (plain_link f.value t.value) link t.place n p.is
    (told_link s parts before m f.value f.place t.value t.place some f.first t.first p.holds)

abbrev Below : Link → Link → Type 0
Below a b = order a < order b

links_told : (s : List ℕ) (parts links at : ℕ) (link : List Link) (n : ℕ) → 1 ≤ parts → parts ≤ 64 → links ≤ 256 → links_from s parts links at ≡ got link n → RowRead s no_link no_link 256 at (Joins parts) Below link_bytes links link n
unfolding links_from blank_links
links_told s parts links at link n some few most is =
    row_read s no_link no_link 256 at (Joins parts) Below link_bytes (link_in s parts)
    (λ k row m a i h before e.
    let told = link_told s parts (before_of k row) m a i some e in
    record {
      one = told.joins;
      after = λ j same.
          let last = (before.each j (omega arith)).to_in in
          let here = told.joins.to_in in
          below_order (get_or row j no_link) a (omega arith) (omega arith) (told.after (get_or row j no_link) (rw same));
      stands = told.stands;
      within = told.within;
    })
    links most link n is

-- the order of links does not look at their delays
ends_below : (before link : Link) → below_of before (plain_link link.from link.to) ≡ below_of before link
unfolding below_of
ends_below before link = refl

link_reads_back : (s : List ℕ) (parts : ℕ) (before : Option Link) (m : ℕ) (link : Link) (n : ℕ) → parts ≤ 64 → Joins parts link → ((last : Link) → before ≡ Some last → below_of last link ≡ true) → Stands s m (link_bytes link) n → link_from s parts before m ≡ got link n
unfolding link_from delay_of and_then pick
link_reads_back s parts before m link n few joins below x =
    let f = encode link.from in
    let t = encode link.to in
    let from_in = joins.from_in in
    let to_in = joins.to_in in
    rw (
      field_reads_back 0 (parts - 1) link.from (omega arith) (omega arith) (omega arith) (stands_first f t x),
      field_reads_back 0 (parts - 1) link.to (omega arith) (omega arith) (omega arith) (stands_then f t x),
      above_holds before (plain_link link.from link.to) joins.apart (λ last same. ends_below last link ∙ below last same),
    ) (ap (λ (x : Link). got x n) (link_same (plain_link link.from link.to) link refl refl (sym joins.plain)))

-- the link before place k of a board's row stands below the link there
below_written :
    (b : Board) (w : WellFormed b) (k : ℕ) (row : List Link) → k < b.links → Filling no_link no_link 256 k b.link row →
    (last : Link) → before_of k row ≡ Some last → below_of last (link_at b k) ≡ true
below_written b w zero row h filling last same = let z : ◌≡◌ {A = ℕ} 0 1 = cc in absurd (omega arith)
below_written b w (suc j) row h filling last same =
    let is : get_or row j no_link ≡ last = cc in
    let from = w.to_in j (omega arith) in
    let here = w.to_in (suc j) h in
    let few = w.parts_to in
    rw (← is, filling.front j (omega arith))
    (below_one (link_at b j) (link_at b (suc j)) (omega arith) (omega arith) (w.ascends j h))

links_read_back : (s : List ℕ) (at n : ℕ) (b : Board) → WellFormed b → Stands s at (links_bytes b b.links) n → links_from s b.parts b.links at ≡ got b.link n
unfolding links_from blank_links links_bytes
links_read_back s at n b w x =
    row_reads_back s no_link no_link 256 at b.link link_bytes (link_in s b.parts) b.links w.links_to
    (λ k row m l h filling y.
    link_reads_back s b.parts (before_of k row) m (link_at b k) l w.parts_to
    (record { from_in = w.from_in k h; to_in = w.to_in k h; apart = w.apart k h; plain = w.plain k h })
    (below_written b w k row h filling)
    y)
    n w.link_room w.blank_links x

-- ---- a board that was read, field by field
record DesignTold (rule : Rule) (s : List ℕ) (b : Board) (n : ℕ) : Type 0 where
  at₀ : ℕ
  at₁ : ℕ
  at₂ : ℕ
  at₃ : ℕ
  at₄ : ℕ
  version : number_at s 0 ≡ got 1 at₀
  ruled : b.rule ≡ rule
  deadline : field_at s 1 4095 at₀ ≡ got b.deadline.0 at₁
  parts : field_at s 1 64 at₁ ≡ got b.parts at₂
  curves : RowRead s no_curve blank_curve 64 at₂ Good (λ a c. Unit {0}) curve_bytes b.parts b.curve at₃
  links : field_at s 0 256 at₃ ≡ got b.links at₄
  row : RowRead s no_link no_link 256 at₄ (Joins b.parts) Below link_bytes b.links b.link n
  ended : length s ≤ n

design_told : (rule : Rule) (s : List ℕ) (b : Board) (n : ℕ) → design_of rule s ≡ got b n → DesignTold rule s b n
unfolding design_of head_from body_from linked_from whole_at
design_told rule s b n is =
    let v = then_got _ _ b n is in
    let d = then_got _ _ b n v.rest in
    let p = then_got _ _ b n d.rest in
    let c = then_got _ _ b n p.rest in
    let l = then_got _ _ b n c.rest in
    let r = then_got _ _ b n l.rest in
    let w = pick_not_stopped _ _ _ b n r.rest in
    let parts = field_got s 1 64 d.place p.value p.place p.first in
    let links = field_got s 0 256 c.place l.value l.place l.first in
    got_same (DesignTold rule s) (board_of rule d.value p.value c.value l.value r.value) b r.place n w.1
    (record {
      at₀ = v.place;
      at₁ = d.place;
      at₂ = p.place;
      at₃ = c.place;
      at₄ = l.place;
      version = (version_told s v.value v.place v.first).1;
      ruled = refl;
      deadline = d.first;
      parts = p.first;
      curves = parts_told s p.value p.place c.value c.place parts.to c.first;
      links = l.first;
      row = links_told s p.value l.value l.place r.value r.place parts.from parts.to links.to r.first;
      ended = ltb-false r.place (length s) w.0;
    })

-- what is read is a well-formed board
pub design_well_formed : (rule : Rule) (s : List ℕ) (b : Board) (n : ℕ) → design_of rule s ≡ got b n → WellFormed b
design_well_formed rule s b n is =
    let t = design_told rule s b n is in
    let d = field_got s 1 4095 t.at₀ b.deadline.0 t.at₁ t.deadline in
    let p = field_got s 1 64 t.at₁ b.parts t.at₂ t.parts in
    let l = field_got s 0 256 t.at₃ b.links t.at₄ t.links in
    record {
      deadline_from = d.from;
      deadline_to = d.to;
      parts_from = p.from;
      parts_to = p.to;
      curves = t.curves.each;
      links_to = l.to;
      from_in = λ i h. (t.row.each i h).from_in;
      to_in = λ i h. (t.row.each i h).to_in;
      apart = λ i h. (t.row.each i h).apart;
      plain = λ i h. (t.row.each i h).plain;
      ascends = t.row.neighbours;
      blank_curves = t.curves.back;
      blank_links = t.row.back;
      curve_room = t.curves.long;
      link_room = t.row.long;
    }

-- "Nothing follows": an accepted file is read to its end
pub design_whole : (rule : Rule) (s : List ℕ) (b : Board) (n : ℕ) → design_of rule s ≡ got b n → n ≡ length s
design_whole rule s b n is =
    let t = design_told rule s b n is in
    let next = field_next s 0 256 t.at₃ b.links t.at₄ t.links in
    let within = t.row.within next.1 in
    let ended = t.ended in
    omega arith

-- an accepted file is rewritten byte for byte
pub read_written : (rule : Rule) (s : List ℕ) (b : Board) (n : ℕ) → Bytes s → design_of rule s ≡ got b n → file_of b ≡ s
unfolding file_of head_bytes body_bytes linked_bytes parts_bytes links_bytes
read_written rule s b n bytes is =
    let t = design_told rule s b n is in
    let all =
    stands_join (number_stands s 0 1 t.at₀ bytes t.version)
    (stands_join (field_stands s 1 4095 t.at₀ b.deadline.0 t.at₁ bytes t.deadline)
    (stands_join (field_stands s 1 64 t.at₁ b.parts t.at₂ bytes t.parts)
    (stands_join (t.curves.stands bytes)
    (stands_join (field_stands s 0 256 t.at₃ b.links t.at₄ bytes t.links) (t.row.stands bytes))))) in
    stands_whole s (file_of b) (rw (← design_whole rule s b n is) all)

-- a board that is read is under the rule named
pub design_rule : (rule : Rule) (s : List ℕ) (b : Board) (n : ℕ) → design_of rule s ≡ got b n → b.rule ≡ rule
design_rule rule s b n is = (design_told rule s b n is).ruled

-- ---- a well-formed board written is read back, with nothing left over
module _ (b : Board) (w : WellFormed b) where
  linked_read_back : (s : List ℕ) (at n : ℕ) → length s ≤ n → Stands s at (encode b.links ++ links_bytes b b.links) n → linked_from s b.rule b.deadline.0 b.parts b.curve at ≡ got b n
  unfolding linked_from whole_at and_then pick
  linked_read_back s at n ended x =
      let l = encode b.links in
      let r = links_bytes b b.links in
      rw (
        field_reads_back 0 256 b.links (omega arith) (omega arith) w.links_to (stands_first l r x),
        links_read_back s (at + length l) n b w (stands_then l r x),
        le-ltb n (length s) ended,
      )

  body_read_back : (s : List ℕ) (at n : ℕ) → length s ≤ n → Stands s at (parts_bytes b b.parts ++ (encode b.links ++ links_bytes b b.links)) n → body_from s b.rule b.deadline.0 b.parts at ≡ got b n
  unfolding body_from and_then
  body_read_back s at n ended x =
      let c = parts_bytes b b.parts in
      let r = encode b.links ++ links_bytes b b.links in
      rw (parts_read_back s at (at + length c) b w (stands_first c r x)) (linked_read_back s (at + length c) n ended (stands_then c r x))

  pub reads_back : (s : List ℕ) → Stands s 0 (file_of b) (length s) → design_of b.rule s ≡ got b (length s)
  unfolding design_of head_from file_of head_bytes body_bytes linked_bytes and_then
  reads_back s x =
      let v = encode 1 in
      let d = encode b.deadline.0 in
      let p = encode b.parts in
      let r = parts_bytes b b.parts ++ (encode b.links ++ links_bytes b b.links) in
      let x₁ = stands_then v (d ++ (p ++ r)) x in
      let x₂ = stands_then d (p ++ r) x₁ in
      rw (
        version_reads_back s _ (stands_first v (d ++ (p ++ r)) x),
        field_reads_back 1 4095 b.deadline.0 (omega arith) w.deadline_from w.deadline_to (stands_first d (p ++ r) x₁),
        field_reads_back 1 64 b.parts (omega arith) w.parts_from w.parts_to (stands_first p r x₂),
      ) (body_read_back s _ (length s) (omega arith) (stands_then p r x₂))

  pub written_read : design_of b.rule (file_of b) ≡ got b (length (file_of b))
  written_read = reads_back (file_of b) (stands_front (file_of b))

  -- ---- 02, Req 02: "The longest design file is 1,990 bytes"
  links_size : length (links_bytes b b.links) ≤ 2 * b.links
  unfolding links_bytes
  links_size =
      row_size (λ l. link_bytes (link_at b l)) 2 b.links
      (λ i h.
      let f = w.from_in i h in
      let t = w.to_in i h in
      let few = w.parts_to in
      omega (arith, length-append (encode (link_at b i).from) (encode (link_at b i).to), size_to_1 (link_at b i).from (omega arith), size_to_1 (link_at b i).to (omega arith)))

  parts_size : length (parts_bytes b b.parts) ≤ (19 + groups) * b.parts
  unfolding parts_bytes
  parts_size = row_size (λ p. curve_bytes (curve_at b p)) (19 + groups) b.parts (λ i h. curve_size_le (curve_at b i) (w.curves i h))

  pub file_size_le : length (file_of b) ≤ 1990
  unfolding file_of head_bytes body_bytes linked_bytes
  file_size_le =
      let d = encode b.deadline.0 in
      let p = encode b.parts in
      let c = parts_bytes b b.parts in
      let l = encode b.links in
      let r = links_bytes b b.links in
      let late = w.deadline_to in
      let few = w.parts_to in
      let most = w.links_to in
      omega (
        arith,
        length-append (encode 1) (d ++ (p ++ (c ++ (l ++ r)))),
        length-append d (p ++ (c ++ (l ++ r))),
        length-append p (c ++ (l ++ r)),
        length-append c (l ++ r),
        length-append l r,
        size_to_1 1 (omega arith),
        size_to_2 b.deadline.0 (omega arith),
        size_to_1 b.parts (omega arith),
        size_to_2 b.links (omega arith),
        parts_size,
        links_size,
      )

-- read under another rule it is the board that differs in the rule alone
pub written_read_under : (rule : Rule) (b : Board) → WellFormed b → design_of rule (file_of b) ≡ got (under_rule rule b) (length (file_of b))
unfolding under_rule file_of head_bytes body_bytes linked_bytes parts_bytes links_bytes
written_read_under rule b w = written_read (under_rule rule b) (under_well rule b w)
