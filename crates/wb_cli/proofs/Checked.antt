-- What contents come to that are checked one after the other.
use Rattle.std.proofs.Common.{◌≡◌, ℕ, ◌+◌, List, [], ◌∷◌, Result, Ok, Err, inl, inr}
use Rattle.wb_cli.specs.declared.files.Kind.{Kind}
use Rattle.wb_cli.specs.declared.files.Kind.TheVariants as kind
use Rattle.wb_cli.specs.declared.outcomes.Outcome.{Outcome}
use Rattle.wb_cli.specs.declared.refusals.Refusal.TheVariants as refusal
use Rattle.wb_cli.specs.declared.refusals.Stop.{Stop}
use Rattle.wb_cli.specs.declared.refusals.Stop.TheVariants.{Refused, OutOfMemory}
use Rattle.wb_cli.specs.Checks.{Held, Holds, IsRefused, ChecksTo, FirstRefused}
use Rattle.wb_cli.specs.Files.{Contents, ReadsAll}
use Rattle.wb_cli.specs.Outcome.{WorksTo, GoesTo}
use Rattle.wb_cli.specs.Plan.{Plan, Task, kinds_of}

-- the second content is refused, or its memory
pub second_refused : (task : Task) (first second : Kind) (kinds : List Kind) (bytes next : List ℕ) (contents : List (List ℕ)) (held : Held) (stop : Stop)
    → Holds first bytes held → ChecksTo second 1 next (Err stop)
    → WorksTo task (first ∷ second ∷ kinds) (bytes ∷ next ∷ contents) (Err stop)
second_refused task first second kinds bytes next contents held (Refused refusal) holds refused = inr ((held, holds), inl refused)
second_refused task first second kinds bytes next contents held OutOfMemory holds refused = tt

-- the third content is refused, or its memory
pub third_refused : (task : Task) (first second third : Kind) (bytes next last : List ℕ) (held also : Held) (stop : Stop)
    → Holds first bytes held → Holds second next also → ChecksTo third 2 last (Err stop)
    → WorksTo task (first ∷ second ∷ third ∷ []) (bytes ∷ next ∷ last ∷ []) (Err stop)
third_refused task first second third bytes next last held also (Refused refusal) holds more refused = inr ((held, holds), inr ((also, more), inl refused))
third_refused task first second third bytes next last held also OutOfMemory holds more refused = tt

-- no content is refused as one that wasn't read
unread_refuses : (kind : Kind) (place : ℕ) (bytes : List ℕ) (at : ℕ) → IsRefused kind place bytes (refusal.ReadFault at) → ⊥
unread_refuses kind.Image place bytes at h = h
unread_refuses kind.Script place bytes at h = h
unread_refuses kind.Source place bytes at h = h
unread_refuses kind.Moves place bytes at h = h

longer_refuses : (kind : Kind) (place : ℕ) (bytes : List ℕ) (at : ℕ) → IsRefused kind place bytes (refusal.TooLong at) → ⊥
longer_refuses kind.Image place bytes at h = h
longer_refuses kind.Script place bytes at h = h
longer_refuses kind.Source place bytes at h = h
longer_refuses kind.Moves place bytes at h = h

never_unread : (place : ℕ) (kinds : List Kind) (contents : List (List ℕ)) (at : ℕ) → FirstRefused place kinds contents (refusal.ReadFault at) → ⊥
never_unread place (kind ∷ kinds) (bytes ∷ contents) at h =
    elim h [ inl here ↦ unread_refuses kind place bytes at here | inr later ↦ never_unread (place + 1) kinds contents at later.1 ]
never_unread place _ _ at h = h

never_longer : (place : ℕ) (kinds : List Kind) (contents : List (List ℕ)) (at : ℕ) → FirstRefused place kinds contents (refusal.TooLong at) → ⊥
never_longer place (kind ∷ kinds) (bytes ∷ contents) at h =
    elim h [ inl here ↦ longer_refuses kind place bytes at here | inr later ↦ never_longer (place + 1) kinds contents at later.1 ]
never_longer place _ _ at h = h

-- a plan goes to what its contents go to
pub contents_go : (told : Contents) (before now : ℕ) (plan : Plan) (contents : List (List ℕ)) (result : Result Outcome Stop)
    → ReadsAll told plan.files contents → now ≡ before → WorksTo plan.task (kinds_of plan.files) contents result → GoesTo told before now plan result
contents_go told before now plan contents (Ok made) whole calm h = record { contents = contents; whole = whole; calm = calm; holds = h }
contents_go told before now plan contents (Err (Refused (refusal.ReadFault at))) whole calm h = absurd (never_unread 0 (kinds_of plan.files) contents at h)
contents_go told before now plan contents (Err (Refused (refusal.TooLong at))) whole calm h = absurd (never_longer 0 (kinds_of plan.files) contents at h)
contents_go told before now plan contents (Err (Refused refused)) whole calm h = record { contents = contents; whole = whole; calm = calm; holds = h }
contents_go told before now plan contents (Err OutOfMemory) whole calm h = calm
