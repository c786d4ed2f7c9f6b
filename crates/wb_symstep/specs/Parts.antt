-- Terms that stand for a part of whichever machine a state stands for.
use Rattle.std.specs.Prelude.{◌≡◌, ℕ, ◌<◌, Bool, List, length, slice_index}
use Rattle.wb_term.specs.declared.nodes.WordId.{WordId}
use Rattle.wb_term.specs.declared.nodes.BitId.{BitId}
use Rattle.wb_term.specs.declared.nodes.Node.{Node}
use Rattle.wb_term.specs.Nodes.{Each}
use Rattle.wb_term.specs.Inputs.{Assignment, IsAssignment}
use Rattle.wb_term.specs.Terms.{Terms, HasWord, HasBit}
use Rattle.wb_term.specs.Values.{word_value, bit_value}
use Rattle.wb_term.specs.Under.{HasOnly}
use Rattle.wb_alu.specs.declared.flags.Flags.{Flags}
use Rattle.wb_fold.specs.declared.flags.SymFlags.{SymFlags}
use Rattle.wb_fold.specs.Flags.{flags_value, flag_numbers, HasFlags}
use Rattle.wb_fold.specs.Ram.{word_in, HasWords, WordsHaveOnly}
use Rattle.wb_word.specs.declared.conditions.Cond.{Cond}
use Rattle.wb_word.specs.declared.codes.Dst.{Dst}
use Rattle.wb_word.specs.declared.codes.Dst.TheVariants as dst
use Rattle.wb_machine.specs.State.{State, IsState}
use Rattle.wb_machine.specs.Next.{merged, taken}
use Rattle.wb_symstep.specs.declared.state.SymState.{SymState}
use Rattle.wb_symstep.specs.declared.stepped.Stepped.{Stepped}
use Rattle.wb_symstep.specs.Stepped.{chosen, IsStepped, SteppedHasOnly}
use Rattle.wb_symstep.specs.State.{status, StandsFor, IsSymState, StateHasOnly}

-- a case: inputs under which the state stands for a machine in its ranges
pub record Stands (inputs : Assignment) (g : Terms) (s : SymState) (m : State) : Type 0 where
  pub inputs_in : IsAssignment inputs
  pub machine_in : IsState m
  pub state : StandsFor inputs g s m

-- In each case the word has the value of this part of the machine. It brings in no input node.
pub record IsPart (g : Terms) (s : SymState) (id : WordId) (part : State → ℕ) : Type 0 where
  pub there : HasWord g id
  pub value : (inputs : Assignment) (m : State) → Stands inputs g s m → word_value inputs g id ≡ part m
  pub only : (allowed : Node → Bool) → StateHasOnly g allowed s → HasOnly g allowed id.number

-- the same of a bit
pub record IsBitPart (g : Terms) (s : SymState) (c : BitId) (part : State → Bool) : Type 0 where
  pub there : HasBit g c
  pub value : (inputs : Assignment) (m : State) → Stands inputs g s m → bit_value inputs g c ≡ part m
  pub only : (allowed : Node → Bool) → StateHasOnly g allowed s → HasOnly g allowed c.number

-- the same of the flags of an accumulator
pub record AreFlagsOf (g : Terms) (s : SymState) (f : SymFlags) (part : State → Flags) : Type 0 where
  pub there : HasFlags g f
  pub value : (inputs : Assignment) (m : State) → Stands inputs g s m → flags_value inputs g f ≡ part m
  pub only : (allowed : Node → Bool) → StateHasOnly g allowed s → Each (HasOnly g allowed) (flag_numbers f)

-- the same of the words of a RAM
pub record IsRamOf (g : Terms) (s : SymState) (ids : List WordId) (part : State → List ℕ) : Type 0 where
  pub len : length ids ≡ 256
  pub there : HasWords g ids
  pub value : (inputs : Assignment) (m : State) → Stands inputs g s m → (k : ℕ) → k < 256 →
      word_value inputs g (word_in ids k) ≡ slice_index (part m) k
  pub only : (allowed : Node → Bool) → StateHasOnly g allowed s → WordsHaveOnly g allowed ids

-- the same of SR, whose RQM and DRS are beside its word
pub record IsStatusOf (g : Terms) (s : SymState) (rqm drs : Bool) (id : WordId) (part : State → ℕ) : Type 0 where
  pub there : HasWord g id
  pub value : (inputs : Assignment) (m : State) → Stands inputs g s m → status rqm drs (word_value inputs g id) ≡ part m
  pub only : (allowed : Node → Bool) → StateHasOnly g allowed s → HasOnly g allowed id.number

-- in each case the machine goes by a known condition
abbrev pub IsDecided : Terms → SymState → Cond → Bool → Type 0
IsDecided g s c known = (inputs : Assignment) (m : State) → Stands inputs g s m → taken c m.regs ≡ known

-- the same of a whole state: in each case it stands for what comes of the machine
pub record IsAfter (g : Terms) (s next : SymState) (step : State → State) : Type 0 where
  pub there : IsSymState g next
  pub value : (inputs : Assignment) (m : State) → Stands inputs g s m → StandsFor inputs g next (step m)
  pub only : (allowed : Node → Bool) → StateHasOnly g allowed s → StateHasOnly g allowed next

-- the same of what may be a fork
pub record IsSteppedAfter (g : Terms) (s : SymState) (stepped : Stepped) (step : State → State) : Type 0 where
  pub there : IsStepped g stepped
  pub value : (inputs : Assignment) (m : State) → Stands inputs g s m → StandsFor inputs g (chosen inputs g stepped) (step m)
  pub only : (allowed : Node → Bool) → StateHasOnly g allowed s → SteppedHasOnly g allowed stepped

-- the term of SR after a move of the bus; RQM and DRS don't count
abbrev pub sr_written : Dst → ℕ → ℕ → ℕ
sr_written dst.Sr bus sr = merged bus sr
sr_written _ bus sr = sr
