-- One more move of a report.
use Rattle.std.proofs.Common.{◌≡◌, ℕ, ◌+◌, List, ◌++◌, length, drop, sym, ◌∙◌, ap, append_assoc}
use Rattle.std.specs.List.{slice_get}
use Rattle.std.specs.declared.option.Option.TheVariants.{Some}
use Rattle.wb_rom.specs.declared.images.Image.{Image}
use Rattle.wb_trace.specs.declared.moves.Move.{Move}
use Rattle.wb_trace.specs.declared.answers.Moved.{Moved}
use Rattle.wb_trace.specs.Standing.{answer}
use Rattle.wb_trace.specs.Trace.{Tracing, moved_on, traced, traced_lines}
use Rattle.wb_trace.specs.Texts.{line_text, with_feed, lines_text}
use Rattle.wb_trace.proofs.Lists.{drop_at}

module _ (a b : Image) (moves : List Move) (place : ℕ) (mv : Move) (found : slice_get moves place ≡ Some mv) (t t' : Tracing) (next : t' ≡ moved_on a b mv t) where
  pub traced_more : traced a b (drop (place + 1) moves) t' ≡ traced a b (drop place moves) t
  traced_more =
      ap (traced a b (drop (place + 1) moves)) next
      ∙ ap (λ ms. traced a b ms t) (sym (drop_at moves place mv found))

  pub lines_more : (text : List ℕ) (moved : Moved) → moved ≡ answer t.chips (length t.earlier) mv → (text ++ with_feed (line_text mv moved)) ++ lines_text (traced_lines a b (drop (place + 1) moves) t') ≡ text ++ lines_text (traced_lines a b (drop place moves) t)
  lines_more text moved e =
      append_assoc text (with_feed (line_text mv moved)) (lines_text (traced_lines a b (drop (place + 1) moves) t'))
      ∙ ap (λ m. text ++ (with_feed (line_text mv m) ++ lines_text (traced_lines a b (drop (place + 1) moves) t'))) e
      ∙ ap (λ u. text ++ (with_feed (line_text mv (answer t.chips (length t.earlier) mv)) ++ lines_text (traced_lines a b (drop (place + 1) moves) u))) next
      ∙ ap (λ ms. text ++ lines_text (traced_lines a b ms t)) (sym (drop_at moves place mv found))
