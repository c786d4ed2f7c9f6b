-- What the registers and flags hold at power-up, as terms.
use Rattle.std.specs.Prelude.{Bool, false}
use Rattle.wb_term.specs.declared.nodes.Node.{Node}
use Rattle.wb_term.specs.Terms.{Terms}
use Rattle.wb_term.specs.Values.{IsWord, IsBit}
use Rattle.wb_term.specs.Under.{HasOnly}
use Rattle.wb_symstep.specs.declared.work.Constants.{Constants}

-- the constants are in the graph, over no input node
pub record AreConstants (g : Terms) (c : Constants) : Type 0 where
  pub zero : IsWord g c.zero (λ _. 0)
  pub last : IsWord g c.last (λ _. 1023)
  pub clear : IsBit g c.clear (λ _. false)
  pub zero_only : (allowed : Node → Bool) → HasOnly g allowed c.zero.number
  pub last_only : (allowed : Node → Bool) → HasOnly g allowed c.last.number
  pub clear_only : (allowed : Node → Bool) → HasOnly g allowed c.clear.number
