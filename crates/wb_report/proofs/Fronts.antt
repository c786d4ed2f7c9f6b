-- The replies of the longest front that is answered are those of the whole run.
use Rattle.std.proofs.Common.{◌≡◌, ℕ, ◌+◌, ◌≤◌, inl, inr, Bool, false, List, [], ◌∷◌, ◌++◌, length, refl, sym, ◌∙◌, ap, subst, arith, append_assoc}
use Rattle.std.proofs.lemmas.List.{append-nil}
use Rattle.std.proofs.Common.{length-append, take, drop}
use Rattle.std.specs.List.{slice_get}
use Rattle.std.specs.declared.option.Option.TheVariants.{Some}
use Rattle.wb_rom.specs.declared.images.Image.{Image}
use Rattle.wb_port.specs.declared.accesses.Access.{Access}
use Rattle.wb_port.specs.declared.runs.Run.{Run}
use Rattle.wb_port.specs.declared.runs.Run.TheVariants.{Answered, Overrun, Breach}
use Rattle.wb_port.specs.Talk.{Talk, dialogue}
use Rattle.wb_port.specs.Run.{Moment, Ends, turn, turns, beginning, EndsAs}
use Rattle.wb_port.specs.Endings.{ComesToAnEnd}
use Rattle.wb_law.specs.Course.{IsStop}
use Rattle.wb_report.specs.Said.{IsSaid}
use Rattle.wb_report.proofs.Lists.{split_at, take_next}
use Rattle.wb_report.proofs.Moments.{more, Later, stuck, swap, turns_more, later, answered_at, stopped_at, turn_plain}

module _ (image : Image) (k : ℕ) where
  -- the last moment of a run comes after each of its moments
  last_after : (held : Bool) (c i : ℕ) (m n : Moment) (e : Run) → turns image k held i m ≡ n → turn image k held (turns image k held c m) ≡ Ends e → turns image k held c n ≡ turns image k held c m
  last_after held c i m n e come h =
      ap (turns image k held c) (sym come) ∙ swap image k held c i m ∙ stuck image k held i (turns image k held c m) e h

  -- nothing was said before the first access
  pub nothing_said : (start : List ℕ) → EndsAs image k false (dialogue start []) (Answered [])
  nothing_said start = (0, turn_plain image k (beginning (dialogue start [])) refl)

  -- what is said until no access is left is all that the run says
  said_when_empty : (held : Bool) (d : Talk) (n : Moment) (i : ℕ) → turns image k held i (beginning d) ≡ n → n.left ≡ [] → ComesToAnEnd image k held d → IsSaid image k held d n.said
  said_when_empty held d n i come empty end =
      record {
        count = end.count;
        end = end.end;
        ends = end.ends;
        said = ap (λ (m : Moment). m.said) (sym last) ∙ same (later image k held end.count n);
      }
    where
      last : turns image k held end.count n ≡ turns image k held end.count (beginning d)
      last = last_after held end.count i (beginning d) n end.end come end.ends

      same : Later n (turns image k held end.count n) → (turns image k held end.count n).said ≡ n.said
      same (inl h) = h.1
      same (inr h) = absurd (let none : length n.left ≡ 0 = ap length empty in omega arith)

  -- a dialogue whose plain run is answered says so much
  pub all_said : (held : Bool) (d : Talk) (said : List ℕ) → EndsAs image k false d (Answered said) → ComesToAnEnd image k held d → IsSaid image k held d said
  all_said held d said answered end =
      let plain = turns image k false answered.0 (beginning d) in
      let at_end = answered_at image k plain said answered.1 in
      let part = turns_more image k held [] answered.0 (beginning d) in
      let come : turns image k held part.0 (beginning d) ≡ more [] plain =
      ap (λ xs. turns image k held part.0 (record (beginning d) { left = xs })) (sym (append-nil d.accesses)) ∙ part.1 in
      subst (IsSaid image k held d) at_end.1
      (said_when_empty held d (more [] plain) part.0 come (append-nil plain.left ∙ at_end.0) end)

  -- a dialogue whose next access isn't given any more says what the front before it says
  pub front_said : (held : Bool) (start : List ℕ) (p : List Access) (a : Access) (q : List Access) (said : List ℕ) (end : Run) → EndsAs image k false (dialogue start p) (Answered said) → EndsAs image k false (dialogue start (p ++ a ∷ [])) end → IsStop end → IsSaid image k held (dialogue start (p ++ a ∷ q)) said
  front_said held start p a q said end answered stops stop =
      record {
        count = to_stop.0;
        end = end;
        ends = ends;
        said = ap (λ (m : Moment). m.said) stopped ∙ same (subst (Later given) at_stop (later image k held to_stop.0 given));
      }
    where
      d : Talk
      d = dialogue start (p ++ a ∷ q)

      front : Moment
      front = turns image k false answered.0 (beginning (dialogue start p))

      at_front : (front.left ≡ []) × (front.said ≡ said)
      at_front = answered_at image k front said answered.1

      given : Moment
      given = more (a ∷ q) front

      to_front : (i : ℕ) × (turns image k held i (beginning d) ≡ given)
      to_front = turns_more image k held (a ∷ q) answered.0 (beginning (dialogue start p))

      last : Moment
      last = turns image k false stops.0 (beginning (dialogue start (p ++ a ∷ [])))

      at_last : (turn image k held (more q last) ≡ Ends end) × (1 ≤ length last.left)
      at_last = stopped_at image k held q last end stops.1 stop

      to_stop : (i : ℕ) × (turns image k held i (more q (beginning (dialogue start (p ++ a ∷ [])))) ≡ more q last)
      to_stop = turns_more image k held q stops.0 (beginning (dialogue start (p ++ a ∷ [])))

      stopped : turns image k held to_stop.0 (beginning d) ≡ more q last
      stopped =
          ap (λ xs. turns image k held to_stop.0 (beginning (dialogue start xs))) (sym (append_assoc p (a ∷ []) q)) ∙ to_stop.1

      ends : turn image k held (turns image k held to_stop.0 (beginning d)) ≡ Ends end
      ends = ap (turn image k held) stopped ∙ at_last.0

      at_stop : turns image k held to_stop.0 given ≡ more q last
      at_stop = last_after held to_stop.0 to_front.0 (beginning d) given end to_front.1 ends ∙ stopped

      same : Later given (more q last) → (more q last).said ≡ said
      same (inl h) = h.1 ∙ at_front.1
      same (inr h) =
          absurd
          (let some : 1 ≤ length last.left = at_last.1 in
          let none : length front.left ≡ 0 = ap length at_front.0 in
          let l = length-append last.left q in
          let r = length-append front.left (a ∷ q) in
          omega arith)

  is_stop : (e : Run) → ((s : List ℕ) → e ≡ Answered s → ⊥) → IsStop e
  is_stop (Answered s) h = h s refl
  is_stop Overrun h = tt
  is_stop (Breach at) h = tt

  module _ (d : Talk) (place : ℕ) (a : Access) (found : slice_get d.accesses place ≡ Some a) (front pushed : Talk) (front_is : front ≡ dialogue d.start (take place d.accesses)) (pushed_is : pushed ≡ record front { accesses = front.accesses ++ a ∷ [] }) where
    -- the front with one access more
    pub one_more : pushed ≡ dialogue d.start (take (place + 1) d.accesses)
    one_more =
        pushed_is
        ∙ ap (λ (f : Talk). record f { accesses = f.accesses ++ a ∷ [] }) front_is
        ∙ ap (dialogue d.start) (sym (take_next d.accesses place a found))

    -- the front is answered, and isn't with one access more: the whole run says what the front says
    pub stops_here : (said : List ℕ) (end : Run) → EndsAs image k false front (Answered said) → EndsAs image k false pushed end → ((s : List ℕ) → end ≡ Answered s → ⊥) → (held : Bool) → IsSaid image k held d said
    stops_here said end answered ends not held =
        subst (λ xs. IsSaid image k held (dialogue d.start xs) said) (sym (split_at d.accesses place a found))
        (front_said held d.start (take place d.accesses) a (drop (place + 1) d.accesses) said end
        (subst (λ (f : Talk). EndsAs image k false f (Answered said)) front_is answered)
        (subst (λ (f : Talk). EndsAs image k false f end) (pushed_is ∙ ap (λ (f : Talk). record f { accesses = f.accesses ++ a ∷ [] }) front_is) ends)
        (is_stop end not))
