-- Growth of the graph leaves entries as they are.
use Rattle.std.proofs.Common.{ℕ, List, sym, ◌∙◌}
use Rattle.std.specs.Prelude.{Contains}
use Rattle.wb_rom.specs.declared.images.Image.{Image}
use Rattle.wb_term.specs.Inputs.{Assignment}
use Rattle.wb_term.specs.Terms.{Terms}
use Rattle.wb_term.specs.Growth.{Grown}
use Rattle.wb_port.specs.declared.chips.Chip.{Chip}
use Rattle.wb_symstep.specs.Laws.{GrowthKeepsStates}
use Rattle.wb_explore.specs.declared.plan.Plan.{Plan}
use Rattle.wb_explore.specs.declared.entries.Entry.{Entry}
use Rattle.wb_explore.specs.declared.reached.ReachedPoint.{ReachedPoint}
use Rattle.wb_explore.specs.Runs.{Runs}
use Rattle.wb_explore.specs.Entries.{IsAt, IsSound, Carries}
use Rattle.wb_explore.specs.Plans.{runs_of, is_chosen}
use Rattle.wb_explore.specs.Pending.{entry_view, IsEntry, IsAbove, ArePending}

module _ (keeps : GrowthKeepsStates) (image : Image) (p : Plan) (g h : Terms) (grown : Grown g h) where
  pub entry_grown : (e : Entry) → IsEntry g image p e → IsEntry h image p e
  entry_grown e x =
      let s = keeps g h grown in
      record {
        state = s.there e.state x.state;
        cond = grown.bits e.cond x.cond;
        state_inputs = s.only (is_chosen p.kinds p.power) e.state x.state x.state_inputs;
        cond_inputs = grown.bit_inputs (is_chosen p.kinds p.power) e.cond x.cond x.cond_inputs;
        shown = x.shown;
        side = x.side;
        kinds = x.kinds;
        count = x.count;
        rank = x.rank;
        witness = λ w q. let old = x.witness w q in record { assignment = old.assignment; normal = old.normal; reached = grown.bit_values w e.cond x.cond ∙ old.reached };
      }

  pub at_grown : (r : Runs) (i : Assignment) (e : Entry) (c : Chip) → IsEntry g image p e → IsAt (entry_view g) r i e c → IsAt (entry_view h) r i e c
  at_grown r i e c x t = record {
    holds = grown.bit_values i e.cond x.cond ∙ t.holds;
    stands = (keeps g h grown).stands i e.state c.machine x.state t.stands;
    key = t.key;
  }

  pub at_shrunk : (r : Runs) (i : Assignment) (e : Entry) (c : Chip) → IsEntry g image p e → IsAt (entry_view h) r i e c → IsAt (entry_view g) r i e c
  at_shrunk r i e c x t = record {
    holds = sym (grown.bit_values i e.cond x.cond) ∙ t.holds;
    stands = (keeps g h grown).stood i e.state c.machine x.state t.stands;
    key = t.key;
  }

  pub above_grown : (bound : ℕ) (e : Entry) → IsEntry g image p e → IsAbove g image p bound e → IsAbove h image p bound e
  above_grown bound e x above i a c come t = above i a c come (at_shrunk (runs_of image p) i e c x t)

  pub sound_grown : (r : Runs) (e : Entry) → IsEntry g image p e → IsSound (entry_view g) r e → IsSound (entry_view h) r e
  sound_grown r e x s i a q =
      let t = s i a (sym (grown.bit_values i e.cond x.cond) ∙ q) in
      (t.0, t.1, at_grown r i e t.0 x t.2)

  pub carries_grown : (r : Runs) (es : List Entry) → ((e : Entry) → Contains es e → IsEntry g image p e) → Carries r (entry_view g) es (entry_view h) es
  carries_grown r es each i a c come t = record { entry = t.entry; listed = t.listed; is_at = at_grown r i t.entry c (each t.entry t.listed) t.is_at }

  pub pending_grown : (reached : List ReachedPoint) (es : List Entry) → ArePending g image p reached es → ArePending h image p reached es
  pending_grown reached es a = record {
    each = λ e c. entry_grown e (a.each e c);
    apart = a.apart;
    sound = λ e c. sound_grown (runs_of image p) e (a.each e c) (a.sound e c);
    known = a.known;
  }
