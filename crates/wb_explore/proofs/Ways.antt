-- Where held chips come after the last access: in one way, with each rank once.
use Rattle.std.proofs.Common.{◌≡◌, ◌+◌, ◌<◌, ◌≤◌, true, ◌⊎◌, inl, inr, sym, ap, subst, ◌∙◌}
use Rattle.wb_term.specs.Inputs.{Assignment, IsAssignment}
use Rattle.wb_port.specs.declared.chips.Chip.{Chip}
use Rattle.wb_port.specs.Schedule.{powered}
use Rattle.wb_port.specs.Monitor.{stepped}
use Rattle.wb_port.specs.Rank.{rank_of}
use Rattle.wb_port.specs.Port.{rqm}
use Rattle.wb_port.specs.NextPoint.{shown_of, point_stepped}
use Rattle.wb_law.specs.Course.{strides, rests}
use Rattle.wb_law.specs.Strides.{LeadsTo, LeadsOn}
use Rattle.wb_law.specs.Points.{IsInPace}
use Rattle.wb_law.specs.Classes.{rank_at, DoesNext}
use Rattle.wb_law.specs.declared.classes.Class.TheVariants as class
use Rattle.wb_law.specs.Requests.{IsFresh}
use Rattle.wb_machine.specs.State.{IsState}
use Rattle.wb_explore.specs.Runs.{Runs, AreTalks, Comes, Asks, point_in}
use Rattle.wb_explore.specs.HeldLaws.{HeldLaws}

module _ (laws : HeldLaws) (r : Runs) where
  abbrev pub Leads : Chip → Chip → Type 0
  Leads c d = LeadsTo r.image r.pace true c d

  pub leads_on : (b c d : Chip) → Leads b c → Leads c d → Leads b d
  leads_on b c d (i, e) (j, f) =
      (i + j, laws.add_up r.image r.pace true i j b ∙ (ap (strides r.image r.pace true j) e ∙ f))

  pub comes_on : (i : Assignment) (c d : Chip) → Comes r i c → Leads c d → Comes r i d
  comes_on i c d h l = record { start = h.start; begins = h.begins; leads = leads_on h.start c d h.leads l }

  -- all begin at one chip
  pub one_start : (i : Assignment) (c d : Chip) → (h : Comes r i c) → (g : Comes r i d) → h.start ≡ g.start
  one_start i c d h g = laws.one_given r.image r.pace (r.talk i).accesses (powered (r.talk i).start) h.start g.start h.begins g.begins

  pub leads_from : (i : Assignment) (c d : Chip) → (h : Comes r i c) → (g : Comes r i d) → Leads h.start d
  leads_from i c d h g = subst (λ (b : Chip). Leads b d) (sym (one_start i c d h g)) g.leads

  pub one_way : (i : Assignment) (c d : Chip) → Comes r i c → Comes r i d → Leads c d ⊎ Leads d c
  one_way i c d h g = laws.one_walk r.image r.pace true h.start c d h.leads (leads_from i c d h g)

  pub paced_start : (i : Assignment) (c : Chip) → (h : Comes r i c) → IsInPace r.pace h.start
  paced_start i c h = laws.in_pace r.image r.pace (r.talk i).start (r.talk i).accesses h.start 0 h.begins

  pub paced : (i : Assignment) (c : Chip) → Comes r i c → IsInPace r.pace c
  paced i c h =
      subst (IsInPace r.pace) h.leads.1 (laws.in_pace r.image r.pace (r.talk i).start (r.talk i).accesses h.start h.leads.0 h.begins)

  -- a rank is had once
  pub once : (i : Assignment) (c d : Chip) → Comes r i c → Comes r i d → rank_of r.image r.pace c ≡ rank_of r.image r.pace d → c ≡ d
  once i c d h g e = laws.equal_ranks r.image r.pace h.start c d (paced_start i c h) h.leads (leads_from i c d h g) e

  -- and so is a point
  pub one_chip : (i : Assignment) (c d : Chip) → Comes r i c → Comes r i d → point_in r c ≡ point_in r d → c ≡ d
  one_chip i c d h g e = once i c d h g (ap (rank_at r.image r.pace) e)

  pub rank_grows : (i : Assignment) (c d : Chip) → Comes r i c → Leads c d → rank_of r.image r.pace c ≤ rank_of r.image r.pace d
  rank_grows i c d h (j, e) =
      subst (λ (x : Chip). rank_of r.image r.pace c ≤ rank_of r.image r.pace x) e (laws.never_fall r.image r.pace j c (paced i c h))

  -- a chip that does something else than to go on leads nowhere else
  pub resting_ends : (c d : Chip) → rests r.image true c ≡ true → Leads c d → c ≡ d
  resting_ends c d q (j, e) = sym (laws.resting_stay r.image r.pace true j c q) ∙ e

  pub overrun_ends : (c d : Chip) → DoesNext r.image r.pace c class.Overruns → Leads c d → c ≡ d
  overrun_ends c d (q, s) (j, e) = sym (laws.stopped_stay r.image r.pace true j c _ s) ∙ e

  pub breach_ends : (c d : Chip) → DoesNext r.image r.pace c class.Breaches → Leads c d → c ≡ d
  breach_ends c d (q, s) (j, e) = sym (laws.stopped_stay r.image r.pace true j c _ s) ∙ e

  -- a chip that goes on executes its next instruction
  pub steps_on : (c : Chip) → DoesNext r.image r.pace c class.GoesOn → Leads c (stepped r.image c)
  steps_on c (q, s) = (1, laws.others_step r.image r.pace true c q s)

  pub step_comes : (i : Assignment) (c : Chip) → Comes r i c → DoesNext r.image r.pace c class.GoesOn → Comes r i (stepped r.image c)
  step_comes i c h n = comes_on i c (stepped r.image c) h (steps_on c n)

  -- where it leads, it is or its next instruction leads there
  pub leads_past : (c d : Chip) → Leads c d → (c ≡ d) ⊎ Leads (stepped r.image c) d
  leads_past c d (j, e) = elim (laws.begin_so r.image r.pace true j c d e) [ inl q ↦ inl q | inr o ↦ inr (after o) ]
    where
      after : LeadsOn r.image r.pace true c d → Leads (stepped r.image c) d
      after o = (o.steps, o.comes)

  -- its next instruction raises its rank
  pub rank_rises : (i : Assignment) (c : Chip) → Comes r i c → DoesNext r.image r.pace c class.GoesOn → rank_of r.image r.pace c < rank_of r.image r.pace (stepped r.image c)
  rank_rises i c h (q, s) = laws.ranks_rise r.image r.pace c (paced i c h) q s

  -- the point after an instruction
  pub next_point : (c : Chip) → point_in r (stepped r.image c) ≡ point_stepped r.image (shown_of (stepped r.image c).machine) (point_in r c)
  next_point c = (laws.points_go_on r.image r.side r.kinds c).step

  -- a chip with the first request after the last access is come to, and has just raised it
  pub asks_comes : (i : Assignment) (c : Chip) → Asks r i c → Comes r i c
  asks_comes i c a = record { start = a.after; begins = a.given; leads = laws.on_the_way r.image r.pace a.after c a.request }

  pub asks_fresh : (i : Assignment) (c : Chip) → Asks r i c → IsFresh c
  asks_fresh i c a = laws.first_fresh r.image r.pace (r.talk i).start (r.talk i).accesses c a

  pub asks_stands : (i : Assignment) (c : Chip) → Asks r i c → rqm c.machine ≡ true
  asks_stands i c a = a.request.rest

  pub fresh_asks : (i : Assignment) (c : Chip) → Comes r i c → rqm c.machine ≡ true → c.monitor.count ≡ 0 → Asks r i c
  fresh_asks i c h q n = laws.fresh_first r.image r.pace (r.talk i).start (r.talk i).accesses h.start c h.leads.0 h.begins h.leads.1 q n

  -- its parts are in their ranges
  pub ranged : AreTalks r → (i : Assignment) → IsAssignment i → (c : Chip) → Comes r i c → IsState c.machine
  ranged t i a c h =
      let d = t.talk i a in
      subst (λ (x : Chip). IsState x.machine) h.leads.1
      (laws.in_range r.image r.pace true (r.talk i).start (r.talk i).accesses h.start h.leads.0 d.start_in d.bytes_in h.begins)
