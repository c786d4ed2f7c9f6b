-- No held run on a demo pair breaches or overruns.
use Rattle.wb_port.specs.declared.runs.Run.TheVariants.{Breach, Overrun}
use Rattle.wb_port.specs.Facts.{CalmWordsKeepThePort, RaisingWordsTouch}
use Rattle.wb_law.specs.Runs.{HeldRunsStopBeforeOrAfter}
use Rattle.wb_gen.specs.Laws.{PairsKeepGoing}
use Rattle.wb_gen.proofs.Circle.{held_goes_on}
use Rattle.wb_gen.proofs.Programs.{serving_pair}

pub pairs_keep_going : CalmWordsKeepThePort → RaisingWordsTouch → HeldRunsStopBeforeOrAfter → PairsKeepGoing
pairs_keep_going keeps raising stopping body a b power h p =
    let s = serving_pair body a b h p in
    record {
      first_unbroken = λ d at fits ends. held_goes_on keeps raising a 101 65 s.first stopping d (Breach at) tt ends;
      second_unbroken = λ d at fits ends. held_goes_on keeps raising b 101 97 s.second stopping d (Breach at) tt ends;
      first_paced = λ d fits ends. held_goes_on keeps raising a 101 65 s.first stopping d Overrun tt ends;
      second_paced = λ d fits ends. held_goes_on keeps raising b 101 97 s.second stopping d Overrun tt ends;
    }
