-- Facts of a result, from other facts of it.
use Rattle.std.proofs.Common.{◌≡◌, ℕ, Result, Ok, Err, ◌∙◌}
use Rattle.std.specs.Prelude.{IfOk}
use Rattle.wb_word.specs.declared.memory.OutOfMemory.{OutOfMemory}
use Rattle.wb_term.specs.declared.nodes.WordId.{WordId}
use Rattle.wb_term.specs.Inputs.{Assignment, IsAssignment}
use Rattle.wb_term.specs.Terms.{Terms}
use Rattle.wb_term.specs.Values.{IsWord}

pub means : (g : Terms) (r : Result WordId OutOfMemory) (f h : Assignment → ℕ)
    → ((inputs : Assignment) → IsAssignment inputs → f inputs ≡ h inputs)
    → IfOk r (λ id. IsWord g id f) → IfOk r (λ id. IsWord g id h)
means g (Ok id) f h same is = record { there = is.there; value = λ inputs a. is.value inputs a ∙ same inputs a }
means g (Err e) f h same is = is

pub from_one : {A E : Type 0} (P R : A → Type 0) (r : Result A E) → ((a : A) → P a → R a) → IfOk r P → IfOk r R
from_one P R (Ok a) f p = f a p
from_one P R (Err e) f p = p

pub from_two : {A E : Type 0} (P Q R : A → Type 0) (r : Result A E) → ((a : A) → P a → Q a → R a) → IfOk r P → IfOk r Q → IfOk r R
from_two P Q R (Ok a) f p q = f a p q
from_two P Q R (Err e) f p q = p
