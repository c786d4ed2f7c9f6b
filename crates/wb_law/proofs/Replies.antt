-- Two images that answer alike at each request answer each dialogue alike.
use Rattle.std.proofs.Common.{◌≡◌, ℕ, ◌+◌, false, Option, List, [], ◌∷◌, ◌++◌, append_assoc, length, length-append, refl, sym, ap, subst, ◌∙◌, arith}
use mathlib.Core.Logic.◌⊎◌.{inl, inr}
use Rattle.std.specs.Option.{option_to_list}
use Rattle.std.specs.List.{AllByRecursion}
use Rattle.std.proofs.lemmas.List.Elements.{recursion_from_All, All-from_recursion}
use Rattle.wb_rom.specs.declared.images.Image.{Image}
use Rattle.wb_port.specs.declared.accesses.Access.{Access}
use Rattle.wb_port.specs.declared.accesses.Access.TheVariants as access
use Rattle.wb_port.specs.declared.accesses.Event.TheVariants as event
use Rattle.wb_port.specs.declared.accesses.Kind.{Kind}
use Rattle.wb_port.specs.declared.accesses.Letter.{Letter}
use Rattle.wb_port.specs.declared.accesses.Power.{Power}
use Rattle.wb_port.specs.declared.chips.Chip.{Chip}
use Rattle.wb_port.specs.declared.runs.Run.TheVariants.{Answered}
use Rattle.wb_port.specs.Port.{access_reply}
use Rattle.wb_port.specs.Schedule.{powered, applied}
use Rattle.wb_port.specs.Talk.{IsByteAccess, kinds, transfers_of, dialogue, IsTransfer}
use Rattle.wb_port.specs.Dialogue.{Fits, AllowsEach}
use Rattle.wb_law.specs.Course.{RestsAt, Ran, Given, AsksAfter}
use Rattle.wb_law.specs.Schedules.{RequestsAlike, RequestsDecide}
use Rattle.wb_law.specs.Requests.{StatusReadsMoveNoRequest, LastReplyIsGivenAtARequest}
use Rattle.wb_law.specs.Runs.{AnsweredRunsAreGiven}
use Rattle.wb_law.proofs.Course.{rests_here, ran_if_ends, ends_if_ran}
use Rattle.wb_law.proofs.Stops.{rests_then, rests_one, given_longer}
use Rattle.wb_law.proofs.Eager.{not_stopped}

-- requests without the status reads before them
module _ (image : Image) (k : ℕ) where
  asks_lifted : (l : List Access) (c b d : Chip) → RestsAt image k false c b → AsksAfter image k l b d → AsksAfter image k l c d
  asks_lifted [] c b d r h = record { after = c; given = refl; request = rests_then image k false c b d r (subst (λ (x : Chip). RestsAt image k false x d) (sym h.given) h.request) }
  asks_lifted (a ∷ l) c b d r h = let g = h.given in record { after = h.after; given = (g.0, rests_then image k false c b g.0 r g.1, g.2); request = h.request }

  asks_more : (a : Access) (l : List Access) (c b d : Chip) → RestsAt image k false c b → AsksAfter image k l (applied image (event.Host a) b) d → AsksAfter image k (a ∷ l) c d
  asks_more a l c b d r h = record { after = h.after; given = (b, r, h.given); request = h.request }

  asks_rest : (a : Access) (l : List Access) (c d : Chip) → AsksAfter image k (a ∷ l) c d → (b : Chip) × RestsAt image k false c b × AsksAfter image k l (applied image (event.Host a) b) d
  asks_rest a l c d h = let g = h.given in (g.0, g.1, record { after = h.after; given = g.2; request = h.request })

  pub strip_asks : (l : List Access) (c d : Chip) → AsksAfter image k l c d → AsksAfter image k (transfers_of l) c d
  strip_asks [] c d h = h
  strip_asks (access.Status ∷ l) c d h = let t = asks_rest access.Status l c d h in asks_lifted (transfers_of l) c t.0 d t.1 (strip_asks l t.0 d t.2)
  strip_asks (access.Read ∷ l) c d h = let t = asks_rest access.Read l c d h in asks_more access.Read (transfers_of l) c t.0 d t.1 (strip_asks l (applied image (event.Host access.Read) t.0) d t.2)
  strip_asks (access.Write b ∷ l) c d h = let t = asks_rest (access.Write b) l c d h in asks_more (access.Write b) (transfers_of l) c t.0 d t.1 (strip_asks l (applied image (event.Host (access.Write b)) t.0) d t.2)

  asks_first : (l : List Access) (c d : Chip) → AsksAfter image k l c d → (b : Chip) × RestsAt image k false c b × AsksAfter image k l b d
  asks_first [] c d h =
      let r = subst (λ (x : Chip). RestsAt image k false x d) (sym h.given) h.request in
      (d, r, record { after = d; given = refl; request = rests_here image k false d r.rest })
  asks_first (a ∷ l) c d h =
      let g = h.given in
      let r = g.1 in
      (g.0, r, record { after = h.after; given = (g.0, rests_here image k false g.0 r.rest, g.2); request = h.request })

  pub unstrip_asks : (l : List Access) (c d : Chip) → AsksAfter image k (transfers_of l) c d → AsksAfter image k l c d
  unstrip_asks [] c d h = h
  unstrip_asks (access.Status ∷ l) c d h = let t = asks_first (transfers_of l) c d h in asks_more access.Status l c t.0 d t.1 (unstrip_asks l t.0 d t.2)
  unstrip_asks (access.Read ∷ l) c d h = let t = asks_rest access.Read (transfers_of l) c d h in asks_more access.Read l c t.0 d t.1 (unstrip_asks l (applied image (event.Host access.Read) t.0) d t.2)
  unstrip_asks (access.Write b ∷ l) c d h = let t = asks_rest (access.Write b) (transfers_of l) c d h in asks_more (access.Write b) l c t.0 d t.1 (unstrip_asks l (applied image (event.Host (access.Write b)) t.0) d t.2)

  -- the last reply of a plain run
  reply_last : (l : List Access) (x : Access) (c : Chip) (s r : List ℕ) → Ran image k false (l ++ x ∷ []) c s (Answered r)
      → (q : List ℕ) × (d : Chip) × Ran image k false l c s (Answered q) × AsksAfter image k l c d × (r ≡ q ++ option_to_list (access_reply x d.machine))
  reply_last [] x c s r (inl h) = (s, h.0, refl, record { after = c; given = refl; request = h.1 }, let e = h.2 in cc)
  reply_last [] x c s r (inr h) = absurd (not_stopped image k h.at r h.stop)
  reply_last (a ∷ l) x c s r (inl h) =
      let t = reply_last l x (applied image (event.Host a) h.0) (s ++ option_to_list (access_reply a h.0.machine)) r h.2 in
      (t.0, t.1, inl (h.0, h.1, t.2), asks_more a l c h.0 t.1 h.1 t.3, t.4)
  reply_last (a ∷ l) x c s r (inr h) = absurd (not_stopped image k h.at r h.stop)

  last_reply : (l : List Access) (x : Access) (c d : Chip) (s q : List ℕ) → Ran image k false l c s (Answered q) → AsksAfter image k l c d
      → Ran image k false (l ++ x ∷ []) c s (Answered (q ++ option_to_list (access_reply x d.machine)))
  last_reply [] x c d s q h asks =
      inl (d, subst (λ (y : Chip). RestsAt image k false y d) (sym asks.given) asks.request, ap (λ (y : List ℕ). Answered (y ++ option_to_list (access_reply x d.machine))) (let e : q ≡ s = cc in e))
  last_reply (a ∷ l) x c d s q (inl h) asks =
      let t = asks_rest a l c d asks in
      let one : t.0 ≡ h.0 = rests_one image k false c t.0 h.0 t.1 h.1 in
      inl (h.0, h.1, last_reply l x (applied image (event.Host a) h.0) d (s ++ option_to_list (access_reply a h.0.machine)) q h.2 (subst (λ (y : Chip). AsksAfter image k l (applied image (event.Host a) y) d) one t.2))
  last_reply (a ∷ l) x c d s q (inr h) asks = absurd (not_stopped image k h.at q h.stop)

  given_of : (l : List Access) (c : Chip) (s r : List ℕ) → Ran image k false l c s (Answered r) → (b : Chip) × Given image k l c b
  given_of [] c s r h = (c, refl)
  given_of (a ∷ l) c s r (inl h) = let t = given_of l (applied image (event.Host a) h.0) (s ++ option_to_list (access_reply a h.0.machine)) r h.2 in (t.0, (h.0, h.1, t.1))
  given_of (a ∷ l) c s r (inr h) = absurd (not_stopped image k h.at r h.stop)

  answered_of : (l : List Access) (c b : Chip) (s : List ℕ) → Given image k l c b → (r : List ℕ) × Ran image k false l c s (Answered r)
  answered_of [] c b s g = (s, refl)
  answered_of (a ∷ l) c b s g = let t = answered_of l (applied image (event.Host a) g.0) b (s ++ option_to_list (access_reply a g.0.machine)) g.2 in (t.0, inl (g.0, g.1, t.1))

pub answered_given : AnsweredRunsAreGiven
answered_given image k start l = (
  λ h. given_of image k l (powered start) [] h.0 (ran_if_ends image k false l (powered start) [] [] (Answered h.0) h.1),
  λ h. let t = answered_of image k l (powered start) h.0 [] h.1 in (t.0, ends_if_ran image k false l (powered start) [] [] (Answered t.0) t.1),
)

pub requests_stay : StatusReadsMoveNoRequest
requests_stay image k l c d = (strip_asks image k l c d, unstrip_asks image k l c d)

pub last_reply_given : LastReplyIsGivenAtARequest
last_reply_given image k start front x replies = (
  λ h.
      let t = reply_last image k front x (powered start) [] replies (ran_if_ends image k false (front ++ x ∷ []) (powered start) [] [] (Answered replies) h) in
      record { earlier = t.0; answered = ends_if_ran image k false front (powered start) [] [] (Answered t.0) t.2; asking = t.1; asks = t.3; sum = t.4 },
  λ h.
      ends_if_ran image k false (front ++ x ∷ []) (powered start) [] [] (Answered replies)
      (subst (λ (r : List ℕ). Ran image k false (front ++ x ∷ []) (powered start) [] (Answered r)) (sym h.sum)
      (last_reply image k front x (powered start) h.asking [] h.earlier (ran_if_ends image k false front (powered start) [] [] (Answered h.earlier) h.answered) h.asks)),
)

-- what fits still fits without the status reads, and up to any access
pub kinds_append : (xs ys : List Access) → kinds (xs ++ ys) ≡ kinds xs ++ kinds ys
kinds_append [] ys = refl
kinds_append (access.Status ∷ xs) ys = kinds_append xs ys
kinds_append (access.Read ∷ xs) ys = let e = kinds_append xs ys in cc
kinds_append (access.Write b ∷ xs) ys = let e = kinds_append xs ys in cc

pub kinds_stripped : (xs : List Access) → kinds (transfers_of xs) ≡ kinds xs
kinds_stripped [] = refl
kinds_stripped (access.Status ∷ xs) = kinds_stripped xs
kinds_stripped (access.Read ∷ xs) = let e = kinds_stripped xs in cc
kinds_stripped (access.Write b ∷ xs) = let e = kinds_stripped xs in cc

allows_front : (shape : List Letter) (xs ys : List Kind) → AllowsEach shape (xs ++ ys) → AllowsEach shape xs
allows_front shape [] ys h = tt
allows_front [] (x ∷ xs) ys h = h
allows_front (l ∷ shape) (x ∷ xs) ys h = (h.0, allows_front shape xs ys h.1)

bytes_front : (p l : List Access) (z : Access) → AllByRecursion IsByteAccess (p ++ z ∷ l) → AllByRecursion IsByteAccess (transfers_of p ++ z ∷ [])
bytes_front [] l z h = (h.0, tt)
bytes_front (access.Status ∷ p) l z h = bytes_front p l z h.1
bytes_front (access.Read ∷ p) l z h = (h.0, bytes_front p l z h.1)
bytes_front (access.Write b ∷ p) l z h = (h.0, bytes_front p l z h.1)

pub all_transfers : (l : List Access) → AllByRecursion IsTransfer (transfers_of l)
all_transfers [] = tt
all_transfers (access.Status ∷ l) = all_transfers l
all_transfers (access.Read ∷ l) = (tt, all_transfers l)
all_transfers (access.Write b ∷ l) = (tt, all_transfers l)

-- the kinds of the stripped front are first of the kinds of the whole
kinds_front : (p l : List Access) (z : Access) → kinds (p ++ z ∷ l) ≡ kinds (transfers_of p ++ z ∷ []) ++ kinds l
kinds_front p l z =
    let whole = kinds_append p (z ∷ l) in
    let one = kinds_append (z ∷ []) l in
    let short = kinds_append (transfers_of p) (z ∷ []) in
    let same = kinds_stripped p in
    whole ∙ (ap (λ (t : List Kind). kinds p ++ t) one ∙ (sym (append_assoc (kinds p) (kinds (z ∷ [])) (kinds l))
    ∙ ap (λ (t : List Kind). t ++ kinds l) (ap (λ (t : List Kind). t ++ kinds (z ∷ [])) (sym same) ∙ sym short)))

pub fits_front : (n : ℕ) (shape : List Letter) (power : Power) (start : List ℕ) (p l : List Access) (z : Access)
    → Fits n shape power (dialogue start (p ++ z ∷ l)) → Fits n shape power (dialogue start (transfers_of p ++ z ∷ []))
fits_front n shape power start p l z f =
    let e = kinds_front p l z in
    let a : length (kinds (p ++ z ∷ l)) ≡ length (kinds (transfers_of p ++ z ∷ [])) + length (kinds l) =
    ap length e ∙ length-append (kinds (transfers_of p ++ z ∷ [])) (kinds l) in
    let s = f.short in
    record {
      short = omega arith;
      shaped = allows_front shape (kinds (transfers_of p ++ z ∷ [])) (kinds l) (subst (AllowsEach shape) e f.shaped);
      powered = f.powered;
      start_in = f.start_in;
      bytes_in = All-from_recursion IsByteAccess (transfers_of p ++ z ∷ []) (bytes_front p l z (recursion_from_All IsByteAccess (p ++ z ∷ l) f.bytes_in));
    }

-- along a dialogue that both images answer
module _ (a b : Image) (n k : ℕ) (shape : List Letter) (power : Power) (alike : RequestsAlike a b n k shape power) (start : List ℕ) where
  replies_from : (l p : List Access) (c d : Chip) (s x y : List ℕ)
      → Given a k p (powered start) c → Given b k p (powered start) d
      → Fits n shape power (dialogue start (p ++ l))
      → Ran a k false l c s (Answered x) → Ran b k false l d s (Answered y) → x ≡ y
  replies_from [] p c d s x y g h f r t = cc
  replies_from (z ∷ l) p c d s x y g h f (inr r) t = absurd (not_stopped a k r.at x r.stop)
  replies_from (z ∷ l) p c d s x y g h f (inl r) (inr t) = absurd (not_stopped b k t.at y t.stop)
  replies_from (z ∷ l) p c d s x y g h f (inl r) (inl t) =
      let asks_a : AsksAfter a k p (powered start) r.0 = record { after = c; given = g; request = r.1 } in
      let asks_b : AsksAfter b k p (powered start) t.0 = record { after = d; given = h; request = t.1 } in
      let same : access_reply z r.0.machine ≡ access_reply z t.0.machine =
      alike start (transfers_of p) z r.0 t.0 (All-from_recursion IsTransfer (transfers_of p) (all_transfers p)) (fits_front n shape power start p l z f)
      (strip_asks a k p (powered start) r.0 asks_a) (strip_asks b k p (powered start) t.0 asks_b) in
      replies_from l (p ++ z ∷ []) (applied a (event.Host z) r.0) (applied b (event.Host z) t.0) (s ++ option_to_list (access_reply z r.0.machine)) x y
      (given_longer a k p z (powered start) r.0 asks_a) (given_longer b k p z (powered start) t.0 asks_b)
      (subst (λ (q : List Access). Fits n shape power (dialogue start q)) (sym (append_assoc p (z ∷ []) l)) f)
      r.2
      (subst (λ (q : Option ℕ). Ran b k false l (applied b (event.Host z) t.0) (s ++ option_to_list q) (Answered y)) (sym same) t.2)

pub requests_decide : RequestsDecide
requests_decide a b n k shape power alike d x y f r t =
    replies_from a b n k shape power alike d.start d.accesses [] (powered d.start) (powered d.start) [] x y refl refl f
    (ran_if_ends a k false d.accesses (powered d.start) [] [] (Answered x) r)
    (ran_if_ends b k false d.accesses (powered d.start) [] [] (Answered y) t)
