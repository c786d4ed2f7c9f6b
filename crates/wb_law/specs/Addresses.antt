-- How points show which addresses held runs execute.
use Rattle.std.specs.Prelude.{◌≡◌, ◌↔◌, ℕ, ◌≤◌, List, ◌++◌, ◌⊎◌, All}
use Rattle.wb_word.specs.declared.sides.Side.{Side}
use Rattle.wb_rom.specs.declared.images.Image.{Image}
use Rattle.wb_port.specs.declared.accesses.Access.{Access}
use Rattle.wb_port.specs.declared.accesses.Letter.{Letter}
use Rattle.wb_port.specs.declared.accesses.Power.{Power}
use Rattle.wb_port.specs.declared.points.Point.{Point}
use Rattle.wb_port.specs.Wait.{follow_times}
use Rattle.wb_port.specs.Talk.{Talk, kinds, dialogue, transfers_of, IsTransfer}
use Rattle.wb_port.specs.Dialogue.{Fits}
use Rattle.wb_port.specs.Executes.{Executes}
use Rattle.wb_port.specs.Points.{Passes, IsReachedOn}
use Rattle.wb_law.specs.Classes.{class_at}
use Rattle.wb_law.specs.declared.classes.Class.TheVariants.{Rests, GoesOn}

-- the chip at the point executes the instruction at the address next
pub record GoesOnAt (image : Image) (k : ℕ) (p : Point) (at : ℕ) : Type 0 where
  pub class : class_at image k p ≡ GoesOn
  pub place : p.pc ≡ at

-- the chip at the point waits in a loop that has the address
pub record RestsAround (image : Image) (k : ℕ) (p : Point) (at : ℕ) : Type 0 where
  pub class : class_at image k p ≡ Rests
  pub follows : ℕ
  pub few : follows ≤ 7
  pub place : follow_times image follows p.pc ≡ at

-- a held chip that comes to the point executes the address
abbrev pub Shows : Image → ℕ → Point → ℕ → Type 0
Shows image k p at = GoesOnAt image k p at ⊎ RestsAround image k p at

-- a point that the held run passes after the first transfers of the dialogue shows the address
pub record IsShown (image : Image) (s : Side) (k : ℕ) (d : Talk) (at : ℕ) : Type 0 where
  pub front : List Access
  pub rest : List Access
  pub parts : transfers_of d.accesses ≡ front ++ rest
  pub point : Point
  pub whole : point.kinds ≡ kinds front
  pub passes : Passes image s k (dialogue d.start front) point
  pub shows : Shows image k point at

-- Each address that a held run executes is shown by a point that the held run of its first transfers passes.
abbrev pub ExecutedAddressesAreShown : Type 0
ExecutedAddressesAreShown =
    (image : Image) (s : Side) (k : ℕ) (d : Talk) (at : ℕ)
    → Executes image d k at → IsShown image s k d at

-- A held run without status reads executes each address that is shown by a point with all of its kinds.
abbrev pub ShownAddressesAreExecuted : Type 0
ShownAddressesAreExecuted =
    (image : Image) (s : Side) (k : ℕ) (d : Talk) (p : Point) (at : ℕ)
    → All IsTransfer d.accesses → p.kinds ≡ kinds d.accesses → Passes image s k d p
    → Shows image k p at → Executes image d k at

-- some fitting dialogue executes the address
pub record IsExecuted (image : Image) (n k : ℕ) (shape : List Letter) (power : Power) (at : ℕ) : Type 0 where
  pub dialogue : Talk
  pub fits : Fits n shape power dialogue
  pub executes : Executes image dialogue k at

-- some reached point of the side shows the address
pub record IsShownOn (image : Image) (s : Side) (n k : ℕ) (shape : List Letter) (power : Power) (at : ℕ) : Type 0 where
  pub point : Point
  pub reached : IsReachedOn image s n k shape power point
  pub shows : Shows image k point at

-- Some fitting dialogue executes an address exactly where some reached point shows it.
abbrev pub ReachedPointsShowTheExecuted : Type 0
ReachedPointsShowTheExecuted =
    (image : Image) (s : Side) (n k : ℕ) (shape : List Letter) (power : Power) (at : ℕ)
    → IsExecuted image n k shape power at ↔ IsShownOn image s n k shape power at
