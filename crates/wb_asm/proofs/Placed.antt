-- The image of a text is that of names and placements that satisfy every rule.
use Rattle.std.proofs.Common.{◌≡◌, ◌≢◌, ℕ, zero, suc, ◌<◌, Bool, false, List, [], ◌∷◌, length, replicate, get_or, None, inl, inr, refl, sym, ◌∙◌, subst}
use Rattle.std.proofs.lemmas.Bool.{cases_eq}
use Rattle.std.proofs.lemmas.List.{length-replicate, get_or-replicate, get_or_default, same_lists}
use Rattle.wb_rom.specs.declared.images.Image.{Image}
use Rattle.wb_syntax.specs.declared.statements.Statement.{Statement}
use Rattle.wb_asm.specs.declared.counters.Counters.{Counters}
use Rattle.wb_asm.specs.Assembly.{Says, IsImageOfText, all_names, zeros}
use Rattle.wb_asm.specs.Counters.{counters_of, counters}
use Rattle.wb_asm.specs.Layout.{start}
use Rattle.wb_asm.specs.Placing.{Placement, Each, AreApart, AreRuled, HasPlaced, IsPlacedImage}
use Rattle.wb_asm.specs.Space.{empty}
use Rattle.wb_asm.specs.Statements.{IsImageOfStatements}
use Rattle.wb_asm.specs.Value.{Names}
use Rattle.wb_asm.specs.Words.{first_misvalued}
use Rattle.wb_asm.proofs.Filled.{zeros_is}
use Rattle.wb_asm.proofs.Fits.{Fits, IsFree, each_mapped, fits_free, fits_apart, apart_fits, filled, filled_length, filled_other, filled_words}
use Rattle.wb_asm.proofs.Walk.{SomeLaid, laid_faultless, faultless_laid, prog_filled_is, drom_filled_is}

-- before the first line
at_start : counters_of start ≡ record { prog = 0; drom = 0 }
unfolding empty
at_start = refl

prog_empty : start.prog.taken ≡ replicate 2048 false
unfolding empty
prog_empty = refl

drom_empty : start.drom.taken ≡ replicate 1024 false
unfolding empty
drom_empty = refl

within_of : (size : ℕ) (ps : List Placement) → Fits (replicate size false) ps → Each (λ p. p.address < size) ps
within_of size ps fits =
    each_mapped (IsFree (replicate size false)) (λ p. p.address < size) ps
    (λ p free. subst (λ (n : ℕ). p.address < n) (length-replicate size false) free.within) (fits_free (replicate size false) ps fits)

fits_of : (size : ℕ) (ps : List Placement) → Each (λ p. p.address < size) ps → AreApart ps → Fits (replicate size false) ps
fits_of size ps within apart =
    apart_fits (replicate size false) ps
    (each_mapped (λ p. p.address < size) (IsFree (replicate size false)) ps
    (λ p room. record {
      within = subst (λ (n : ℕ). p.address < n) (sym (length-replicate size false)) room;
      free = get_or-replicate size p.address false false room;
    }) within)
    apart

zero_at : (size k : ℕ) → get_or {A = ℕ} (replicate size 0) k 0 ≡ 0
zero_at zero k = refl
zero_at (suc size) zero = refl
zero_at (suc size) (suc k) = zero_at size k

-- the memory that the placements fill has them, and no other has
filled_has : (size : ℕ) (ps : List Placement) → Each (λ p. p.address < size) ps → AreApart ps → HasPlaced size ps (filled (zeros size) ps)
filled_has size ps within apart =
    subst (λ (zero : List ℕ). HasPlaced size ps (filled zero ps)) (zeros_is size) (record {
      places = filled_length (replicate size 0) ps ∙ length-replicate size 0;
      words = filled_words (replicate size 0) ps
          (each_mapped (λ p. p.address < size) (λ p. p.address < length (replicate size 0)) ps
          (λ p. subst (λ (n : ℕ). p.address < n) (sym (length-replicate size 0))) within) apart;
      elsewhere = λ k none. filled_other (replicate size 0) ps k none ∙ zero_at size k;
    })

same_at : (k : ℕ) (memory other : List ℕ) (ps : List Placement) → Each (λ p. get_or memory p.address 0 ≡ p.word) ps
    → Each (λ p. get_or other p.address 0 ≡ p.word) ps → (Each (λ p. p.address ≢ k) ps → get_or memory k 0 ≡ get_or other k 0)
    → get_or memory k 0 ≡ get_or other k 0
same_at k memory other [] g h none = none tt
same_at k memory other (p ∷ ps) g h none =
    elim (cases_eq p.address k) [
      | inl e ↦ subst (λ (a : ℕ). get_or memory a 0 ≡ get_or other a 0) e (g.0 ∙ sym h.0)
      | inr ne ↦ same_at k memory other ps g.1 h.1 (λ rest. none (ne, rest))
    ]

one_memory : (size : ℕ) (ps : List Placement) (memory other : List ℕ) → HasPlaced size ps memory → HasPlaced size ps other → memory ≡ other
one_memory size ps memory other g h =
    same_lists memory other (g.places ∙ sym h.places)
    (λ k d room.
    get_or_default memory k d 0 room
    ∙ same_at k memory other ps g.words h.words (λ none. g.elsewhere k none ∙ sym (h.elsewhere k none))
    ∙ get_or_default other k 0 d (subst (λ (n : ℕ). k < n) (g.places ∙ sym h.places) room))

module _ (text : List ℕ) (statements : List Statement) (image : Image) where
  placed_by : IsImageOfStatements text statements image → SomeLaid text (all_names text statements) start statements → IsPlacedImage text statements image
  placed_by h some =
      let prog_fits = subst (λ (t : List Bool). Fits t some.prog) prog_empty some.laid.prog_fits in
      let drom_fits = subst (λ (t : List Bool). Fits t some.drom) drom_empty some.laid.drom_fits in
      let prog_within = within_of 2048 some.prog prog_fits in
      let drom_within = within_of 1024 some.drom drom_fits in
      let prog_apart = fits_apart (replicate 2048 false) some.prog prog_fits in
      let drom_apart = fits_apart (replicate 1024 false) some.drom drom_fits in
      record {
        names = all_names text statements;
        prog = some.prog;
        drom = some.drom;
        placing = record {
          rules = subst (λ (c : Counters). AreRuled text (all_names text statements) [] c statements some.prog some.drom) at_start some.laid.rules;
          prog_within = prog_within;
          drom_within = drom_within;
          prog_apart = prog_apart;
          drom_apart = drom_apart;
        };
        in_prog = subst (λ (m : List ℕ). HasPlaced 2048 some.prog m)
            (sym (h.prog ∙ prog_filled_is text (all_names text statements) start statements some.prog some.drom (zeros 2048) some.laid.rules))
            (filled_has 2048 some.prog prog_within prog_apart);
        in_drom = subst (λ (m : List ℕ). HasPlaced 1024 some.drom m)
            (sym (h.drom ∙ drom_filled_is text (all_names text statements) start statements some.prog some.drom (zeros 1024) some.laid.rules))
            (filled_has 1024 some.drom drom_within drom_apart);
      }

  pub image_placed : IsImageOfStatements text statements image → IsPlacedImage text statements image
  image_placed h =
      placed_by h (laid_faultless text (all_names text statements) start statements (record { placed = h.placed; valued = h.valued; all = refl }))

  pub placed_image : IsPlacedImage text statements image → IsImageOfStatements text statements image
  placed_image h =
      let rules = subst (λ (c : Counters). AreRuled text h.names [] c statements h.prog h.drom) (sym at_start) h.placing.rules in
      let none = faultless_laid text h.names start statements h.prog h.drom rules
      (subst (λ (t : List Bool). Fits t h.prog) (sym prog_empty) (fits_of 2048 h.prog h.placing.prog_within h.placing.prog_apart))
      (subst (λ (t : List Bool). Fits t h.drom) (sym drom_empty) (fits_of 1024 h.drom h.placing.drom_within h.placing.drom_apart)) in
      let laid = subst (λ (n : Names). AreRuled text n [] (counters_of start) statements h.prog h.drom) none.all rules in
      record {
        placed = none.placed;
        valued = subst (λ (n : Names). first_misvalued text n statements (counters text start statements) ≡ None) none.all none.valued;
        prog = one_memory 2048 h.prog image.prog (filled (zeros 2048) h.prog) h.in_prog (filled_has 2048 h.prog h.placing.prog_within h.placing.prog_apart)
            ∙ sym (prog_filled_is text (all_names text statements) start statements h.prog h.drom (zeros 2048) laid);
        drom = one_memory 1024 h.drom image.drom (filled (zeros 1024) h.drom) h.in_drom (filled_has 1024 h.drom h.placing.drom_within h.placing.drom_apart)
            ∙ sym (drom_filled_is text (all_names text statements) start statements h.prog h.drom (zeros 1024) laid);
      }

module _ (text : List ℕ) (statements : List Statement) (says : Says text statements)
    (one_says : (ss ts : List Statement) → Says text ss → Says text ts → ss ≡ ts) (image : Image) where
  pub text_placed : IsImageOfText text image → IsPlacedImage text statements image
  text_placed h =
      image_placed text statements image
      (subst (λ (ss : List Statement). IsImageOfStatements text ss image) (one_says h.statements statements h.says says)
      (record { placed = h.placed; valued = h.valued; prog = h.prog; drom = h.drom }))

  pub placed_text : IsPlacedImage text statements image → IsImageOfText text image
  placed_text h =
      let of = placed_image text statements image h in
      record { statements = statements; says = says; placed = of.placed; valued = of.valued; prog = of.prog; drom = of.drom }
