-- The four blocks and the runs, once laid, are the board's network; and it stays where times of nodes are written beside it.
-- Assumes nothing.
use Rattle.std.proofs.Common.{◌≡◌, ℕ, ◌+◌, ◌<◌, List, sym, ap, ◌∙◌, arith}
use Rattle.theory.specs.Sum.{cells}
use Rattle.board.specs.declared.Board.{Board}
use Rattle.board.specs.Board.{WellFormed, view}
use Rattle.board.proofs.Lawful.{wire_to}
use Rattle.nets.specs.declared.Net.{Net}
use Rattle.nets.specs.Network.{Bends}
use Rattle.nets.specs.Sheet.{net_in}
use Rattle.nets.specs.Wired.{Wired}
use Rattle.nets.proofs.Arcs.{each_arc}
use Rattle.solver.specs.Wiring.{Span, span_in, part_span, link_span, entry_span, exit_span, LaidIn, Runs, NetworkIn}
use Rattle.solver.proofs.wiring.Gains.{part_saves, flat_saves, part_bends, flat_bends}

module _ (b : Board) (ok : WellFormed b) (n₀ n₁ n₂ n₃ n₄ : Net) where
  abbrev n : ℕ
  n = b.parts

  abbrev m : ℕ
  m = b.links

  module _ (parts : LaidIn 0 n (part_span b) n₀ n₁) (links : LaidIn n m (link_span b) n₁ n₂) (entries : LaidIn (n + m) n entry_span n₂ n₃)
      (exits : LaidIn (n + m + n) n exit_span n₃ n₄) (lengths savings : List ℕ) (laid_runs : Runs b 256 lengths savings) (count due : ℕ) where
    -- runs and counts are laid beside the arcs
    abbrev n₆ : Net
    n₆ = record n₄ { length = lengths; saving = savings; arcs = n + m + n + n; parts = count; due = due }

    -- ---- each block
    part_span_lem : (p : ℕ) → p < n → span_in n₄ p ≡ part_span b p
    part_span_lem p h =
        let z : 0 + p ≡ p = omega arith in
        exits.kept p (omega arith) ∙ entries.kept p (omega arith) ∙ links.kept p h ∙ ap (span_in n₁) (sym z) ∙ parts.laid p h

    link_span_lem : (l : ℕ) → l < m → span_in n₄ (n + l) ≡ link_span b l
    link_span_lem l h = exits.kept (n + l) (omega arith) ∙ entries.kept (n + l) (omega arith) ∙ links.laid l h

    entry_span_lem : (p : ℕ) → p < n → span_in n₄ (n + (m + p)) ≡ entry_span p
    entry_span_lem p h =
        let e : n + (m + p) ≡ n + m + p = omega arith in
        ap (span_in n₄) e ∙ exits.kept (n + m + p) (omega arith) ∙ entries.laid p h

    exit_span_lem : (p : ℕ) → p < n → span_in n₄ (n + (m + (n + p))) ≡ exit_span p
    exit_span_lem p h = let e : n + (m + (n + p)) ≡ n + m + n + p = omega arith in ap (span_in n₄) e ∙ exits.laid p h

    module _ (a : ℕ) (s : Span) (e : span_in n₄ a ≡ s) where
      tail_is : cells n₄.tail a ≡ s.from
      tail_is = ap (λ (q : Span). q.from) e

      head_is : cells n₄.head a ≡ s.to
      head_is = ap (λ (q : Span). q.to) e

      base_is : cells n₄.base a ≡ s.ticks
      base_is = ap (λ (q : Span). q.ticks) e

    wired : Wired (view b) (net_in n₆)
    unfolding view
    wired = record {
      parts = ok.parts_to;
      arcs = omega arith;
      part_tail = λ p h. tail_is p _ (part_span_lem p h);
      part_head = λ p h. head_is p _ (part_span_lem p h);
      part_base = λ p h. base_is p _ (part_span_lem p h);
      part_gain = part_saves b ok lengths savings laid_runs;
      link_tail = λ l h. tail_is (n + l) _ (link_span_lem l h);
      link_head = λ l h. head_is (n + l) _ (link_span_lem l h);
      link_base = λ l h. base_is (n + l) _ (link_span_lem l h);
      entry_tail = λ p h. tail_is (n + (m + p)) _ (entry_span_lem p h);
      entry_head = λ p h. head_is (n + (m + p)) _ (entry_span_lem p h);
      entry_base = λ p h. base_is (n + (m + p)) _ (entry_span_lem p h);
      exit_tail = λ p h. tail_is (n + (m + (n + p))) _ (exit_span_lem p h);
      exit_head = λ p h. head_is (n + (m + (n + p))) _ (exit_span_lem p h);
      exit_base = λ p h. base_is (n + (m + (n + p))) _ (exit_span_lem p h);
      flat = λ a h _. flat_saves b ok lengths savings laid_runs a h;
    }

    pub network_laid : NetworkIn b n₆
    unfolding view
    network_laid =
        let w = wired in
        record {
          wired = w;
          sound = record {
            few = omega (arith, ok.parts_to, ok.links_to);
            tail_in =
                each_arc (view b) (λ a. cells n₆.tail a < 130)
                (λ p h. omega (arith, ok.parts_to, w.part_tail p h))
                (λ l h. omega (arith, ok.parts_to, w.link_tail l h, ok.from_in l h))
                (λ p h. omega (arith, w.entry_tail p h))
                (λ p h. omega (arith, ok.parts_to, w.exit_tail p h))
                n₆.arcs w.arcs;
            head_in =
                each_arc (view b) (λ a. cells n₆.head a < 130)
                (λ p h. omega (arith, ok.parts_to, w.part_head p h))
                (λ l h. omega (arith, ok.parts_to, w.link_head l h, ok.to_in l h))
                (λ p h. omega (arith, ok.parts_to, w.entry_head p h))
                (λ p h. omega (arith, w.exit_head p h))
                n₆.arcs w.arcs;
          };
          curved = record {
            bends =
                each_arc (view b) (λ a. Bends (cells n₆.base a) lengths savings a)
                (λ p h. rw (w.part_base p h) (part_bends b ok lengths savings laid_runs p h))
                (λ l h. rw (w.link_base l h) (flat_bends b ok lengths savings laid_runs ((view b).wire l) (omega (arith, wire_to b ok l h)) (n + l) (omega arith)))
                (λ p h. rw (w.entry_base p h) (flat_bends b ok lengths savings laid_runs 0 (omega arith) (n + (m + p)) (omega arith)))
                (λ p h. rw (w.exit_base p h) (flat_bends b ok lengths savings laid_runs 0 (omega arith) (n + (m + (n + p))) (omega arith)))
                n₆.arcs w.arcs;
          };
        }

-- ---- times are written beside the network
pub network_stays : (b : Board) (net : Net) (t : List ℕ) → NetworkIn b net → NetworkIn b (record net { late = t })
network_stays b net t k = record { wired = k.wired; sound = k.sound; curved = k.curved }
