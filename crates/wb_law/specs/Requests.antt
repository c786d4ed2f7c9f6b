-- Requests: the chips at which the accesses of a dialogue are given.
use Rattle.std.specs.Prelude.{◌≡◌, ◌↔◌, ℕ, true, false, List, [], ◌∷◌, ◌++◌}
use Rattle.std.specs.Option.{option_to_list}
use Rattle.wb_port.specs.Talk.{dialogue, transfers_of}
use Rattle.wb_rom.specs.declared.images.Image.{Image}
use Rattle.wb_port.specs.declared.accesses.Access.{Access}
use Rattle.wb_port.specs.declared.accesses.Event.{Event}
use Rattle.wb_port.specs.declared.accesses.Event.TheVariants as event
use Rattle.wb_port.specs.declared.chips.Chip.{Chip}
use Rattle.wb_port.specs.declared.runs.Run.TheVariants.{Answered}
use Rattle.wb_port.specs.Port.{rqm, access_reply}
use Rattle.wb_port.specs.Schedule.{powered, applied, after}
use Rattle.wb_port.specs.Run.{EndsAs}
use Rattle.wb_law.specs.Course.{strides, RestsAt, Given, AsksAfter}

-- A chip comes to one request after some accesses.
abbrev pub RequestsAreOne : Type 0
RequestsAreOne =
    (image : Image) (k : ℕ) (accesses : List Access) (c d e : Chip)
    → AsksAfter image k accesses c d → AsksAfter image k accesses c e → d ≡ e

-- A chip is one after some accesses were given.
abbrev pub GivenChipsAreOne : Type 0
GivenChipsAreOne =
    (image : Image) (k : ℕ) (accesses : List Access) (c d e : Chip)
    → Given image k accesses c d → Given image k accesses c e → d ≡ e

-- A chip at which some accesses and one more were given is the one at the request after those, with that one given.
abbrev pub LastAccessIsGivenAtARequest : Type 0
LastAccessIsGivenAtARequest =
    (image : Image) (k : ℕ) (front : List Access) (x : Access) (c d : Chip)
    → Given image k (front ++ x ∷ []) c d
    ↔ ((b : Chip) × AsksAfter image k front c b × (applied image (event.Host x) b ≡ d))

-- what the replies of some accesses and one more are: those of the first, and the last one's, at its request
pub record EndsByReply (image : Image) (k : ℕ) (start : List ℕ) (front : List Access) (x : Access) (replies : List ℕ) : Type 0 where
  pub earlier : List ℕ
  pub answered : EndsAs image k false (dialogue start front) (Answered earlier)
  pub asking : Chip
  pub asks : AsksAfter image k front (powered start) asking
  pub sum : replies ≡ earlier ++ option_to_list (access_reply x asking.machine)

-- A plain run with one access more is answered where the shorter one is and a request follows it.
abbrev pub LastReplyIsGivenAtARequest : Type 0
LastReplyIsGivenAtARequest =
    (image : Image) (k : ℕ) (start : List ℕ) (front : List Access) (x : Access) (replies : List ℕ)
    → EndsAs image k false (dialogue start (front ++ x ∷ [])) (Answered replies)
    ↔ EndsByReply image k start front x replies

-- Leaving status reads out of a dialogue changes no request.
abbrev pub StatusReadsMoveNoRequest : Type 0
StatusReadsMoveNoRequest =
    (image : Image) (k : ℕ) (accesses : List Access) (c d : Chip)
    → AsksAfter image k accesses c d ↔ AsksAfter image k (transfers_of accesses) c d

-- a chip that has just raised a request
pub record IsFresh (c : Chip) : Type 0 where
  pub count : c.monitor.count ≡ 0
  pub asked : c.monitor.asked ≡ true

-- A first request is asked, and its count is 0.
abbrev pub FirstRequestsAreFresh : Type 0
FirstRequestsAreFresh =
    (image : Image) (k : ℕ) (start : List ℕ) (accesses : List Access) (d : Chip)
    → AsksAfter image k accesses (powered start) d → IsFresh d

-- Where a held chip strides on after some accesses, a request with count 0 is the first one after them.
abbrev pub FreshRequestsAreFirst : Type 0
FreshRequestsAreFirst =
    (image : Image) (k : ℕ) (start : List ℕ) (accesses : List Access) (b d : Chip) (j : ℕ)
    → Given image k accesses (powered start) b → strides image k true j b ≡ d
    → rqm d.machine ≡ true → d.monitor.count ≡ 0
    → AsksAfter image k accesses (powered start) d

-- Where a chip comes to a request, it comes there too where it is held.
abbrev pub RequestsAreOnTheWay : Type 0
RequestsAreOnTheWay =
    (image : Image) (k : ℕ) (b d : Chip)
    → RestsAt image k false b d → (j : ℕ) × (strides image k true j b ≡ d)

-- At every moment of every schedule, a request that stands is asked.
abbrev pub RequestsAreAsked : Type 0
RequestsAreAsked =
    (image : Image) (start : List ℕ) (s : List Event)
    → rqm (after image s (powered start)).machine ≡ true
    → (after image s (powered start)).monitor.asked ≡ true
