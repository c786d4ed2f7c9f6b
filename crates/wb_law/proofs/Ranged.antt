-- The parts of a chip stay in their ranges.
use Rattle.std.proofs.Common.{ℕ, zero, suc, ◌<◌, Bool, true, false, List, [], ◌∷◌, subst, arith}
use Rattle.std.specs.List.{AllByRecursion}
use Rattle.std.proofs.lemmas.List.Elements.{recursion_from_All}
use Rattle.wb_rom.specs.declared.images.Image.{Image}
use Rattle.wb_machine.specs.State.{State, IsRegs, IsState}
use Rattle.wb_machine.specs.Parts.{RangesAreKept, StartsAreInRange}
use Rattle.wb_port.specs.declared.accesses.Access.TheVariants as access
use Rattle.wb_port.specs.declared.accesses.Event.{Event}
use Rattle.wb_port.specs.declared.accesses.Event.TheVariants as event
use Rattle.wb_port.specs.declared.chips.Chip.{Chip}
use Rattle.wb_port.specs.Port.{drs, drc, ported, transferred, half_replaced, after_read, after_write}
use Rattle.wb_port.specs.Monitor.{stepped}
use Rattle.wb_port.specs.Schedule.{powered, applied, after}
use Rattle.wb_port.specs.Talk.{IsByteAccess}
use Rattle.wb_port.specs.Run.{Moment, Turn, turn, turns, goes_on, beginning}
use Rattle.wb_law.specs.Ranges.{AccessesKeepRanges, IsByteEvent, SchedulesKeepRanges, MomentsAreInRange, RunsKeepRanges}
use Rattle.wb_law.proofs.Views.{View, gives, steps, ends, view}

transferred_in : (single second : Bool) (sr : ℕ) → sr < 65536 → transferred single second sr < 65536
transferred_in true second sr h = omega arith
transferred_in false false sr h = omega arith
transferred_in false true sr h = omega arith

replaced_in : (single second : Bool) (byte word : ℕ) → byte < 256 → word < 65536 → half_replaced single second byte word < 65536
replaced_in true second byte word h w = omega arith
replaced_in false false byte word h w = omega arith
replaced_in false true byte word h w = omega arith

-- the machine with another DR and another status register
ported_in : (dr sr : ℕ) (m : State) → dr < 65536 → sr < 65536 → IsState m → IsState (ported dr sr m)
ported_in dr sr m d s h =
    let r : IsRegs m.regs = h.regs_in in
    record {
      regs_in = record {
        pc_in = r.pc_in;
        sp_in = r.sp_in;
        rp_in = r.rp_in;
        dp_in = r.dp_in;
        a_in = r.a_in;
        b_in = r.b_in;
        tr_in = r.tr_in;
        trb_in = r.trb_in;
        k_in = r.k_in;
        l_in = r.l_in;
        dr_in = d;
        sr_in = s;
        so_in = r.so_in;
      };
      stack_length = h.stack_length;
      stack_in = h.stack_in;
      ram_length = h.ram_length;
      ram_in = h.ram_in;
    }

pub access_in : AccessesKeepRanges
unfolding after_read after_write
access_in access.Status m byte h = h
access_in access.Read m byte h =
    ported_in m.regs.dr (transferred (drc m) (drs m) m.regs.sr) m h.regs_in.dr_in
    (transferred_in (drc m) (drs m) m.regs.sr h.regs_in.sr_in) h
access_in (access.Write b) m byte h =
    ported_in (half_replaced (drc m) (drs m) b m.regs.dr) (transferred (drc m) (drs m) m.regs.sr) m
    (replaced_in (drc m) (drs m) b m.regs.dr byte h.regs_in.dr_in)
    (transferred_in (drc m) (drs m) m.regs.sr h.regs_in.sr_in) h

module _ (kept : RangesAreKept) where
  step_in : (image : Image) (c : Chip) → IsState c.machine → IsState (stepped image c).machine
  unfolding stepped
  step_in image c h = kept image c.machine h

  after_in : (image : Image) (s : List Event) (c : Chip) → AllByRecursion IsByteEvent s → IsState c.machine → IsState (after image s c).machine
  after_in image [] c bytes h = h
  after_in image (event.Step ∷ s) c bytes h = after_in image s (stepped image c) bytes.1 (step_in image c h)
  after_in image (event.Host a ∷ s) c bytes h = after_in image s (applied image (event.Host a) c) bytes.1 (access_in a c.machine bytes.0 h)

  pub schedules_in : SchedulesKeepRanges
  schedules_in image c s bytes h = after_in image s c (recursion_from_All IsByteEvent s bytes) h

module _ (kept : RangesAreKept) (starts : StartsAreInRange) where
  pub moments_in : MomentsAreInRange
  moments_in image start s fit bytes = schedules_in kept image (powered start) s bytes (starts start fit)

  -- the chip is in its ranges, and what is left writes bytes
  record IsRanged (m : Moment) : Type 0 where
    chip : IsState m.chip.machine
    left : AllByRecursion IsByteAccess m.left

  turn_in : (image : Image) (k : ℕ) (held : Bool) (m : Moment) (t : Turn) → View image k held m t → IsRanged m → IsRanged (goes_on t m)
  turn_in image k held m _ (gives a rest left on) h =
      let bytes : AllByRecursion IsByteAccess (a ∷ rest) = subst (AllByRecursion IsByteAccess) left h.left in
      record { chip = access_in a m.chip.machine bytes.0 h.chip; left = bytes.1 }
  turn_in image k held m _ (steps other fine busy) h = record { chip = step_in kept image m.chip h.chip; left = h.left }
  turn_in image k held m _ (ends e) h = h

  turns_in : (image : Image) (k : ℕ) (held : Bool) (j : ℕ) (m : Moment) → IsRanged m → IsRanged (turns image k held j m)
  turns_in image k held zero m h = h
  turns_in image k held (suc j) m h =
      turns_in image k held j (goes_on (turn image k held m) m) (turn_in image k held m (turn image k held m) (view image k held m) h)

  pub runs_in : RunsKeepRanges
  runs_in image k held d j fit =
      (turns_in image k held j (beginning d)
      (record { chip = starts d.start fit.start_in; left = recursion_from_All IsByteAccess d.accesses fit.bytes_in })).chip
