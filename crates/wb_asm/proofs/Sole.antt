-- Two answers can't both be right.
use Rattle.std.proofs.Common.{◌≡◌, ℕ, List, Some, None, inl, inr, sym, ap, ◌∙◌, subst}
use Rattle.wb_lex.specs.declared.faults.LexFault.{LexFault}
use Rattle.wb_lex.specs.declared.tokens.Token.{Token}
use Rattle.wb_lex.specs.Tokens as lex
use Rattle.wb_rom.specs.declared.images.Image.{Image}
use Rattle.wb_rom.specs.ImageBytes.{IsImageOf}
use Rattle.wb_syntax.specs.Source.{IsSource, IsFirstBad}
use Rattle.wb_syntax.specs.declared.statements.Statement.{Statement}
use Rattle.wb_asm.specs.declared.faults.AsmFault.{AsmFault}
use Rattle.wb_asm.specs.declared.faults.AsmKind.{AsmKind}
use Rattle.wb_asm.specs.Assembly.{Says, IsImageOfText, IsFaultOfBytes, IsFaultOfGrammar, IsFaultOfPlacing, IsFaultOfValues, IsFirstFault, of_bytes, all_names, all_counters, placing_fault, value_fault, zeros}
use Rattle.wb_asm.specs.Words.{prog_filled, drom_filled}

-- what the layers below promise
pub record Below : Type 0 where
  pub one_list : (text : List ℕ) (a b : List Token) → lex.IsTokens text a → lex.IsTokens text b → a ≡ b
  pub one_byte : (text : List ℕ) (a b : LexFault) → lex.IsFirstFault text a → lex.IsFirstFault text b → a ≡ b
  pub not_both : (text : List ℕ) (a : List Token) (b : LexFault) → lex.IsTokens text a → lex.IsFirstFault text b → ⊥
  pub one_source : (text : List ℕ) (t : List Token) (a b : List Statement) → IsSource text t a → IsSource text t b → a ≡ b
  pub one_line : (text : List ℕ) (t : List Token) (a b : ℕ) → IsFirstBad text t a → IsFirstBad text t b → a ≡ b
  pub not_bad : (text : List ℕ) (t : List Token) (a : List Statement) (b : ℕ) → IsSource text t a → IsFirstBad text t b → ⊥
  pub some_file : (image : Image) → (bytes : List ℕ) × IsImageOf bytes image
  pub one_image : (bytes : List ℕ) (a b : Image) → IsImageOf bytes a → IsImageOf bytes b → a ≡ b

some_apart : {T : Type 0} (x : T) → None ≡ Some x → ⊥
some_apart x h = cc

same_some : {T : Type 0} (x y : T) → Some x ≡ Some y → x ≡ y
same_some x y h = cc

built : ℕ → AsmKind → AsmFault
built line kind = record { line = line; kind = kind }

same_fault : (f g : AsmFault) → f.line ≡ g.line → f.kind ≡ g.kind → f ≡ g
unfolding built
same_fault f g l k = ap (λ line. built line f.kind) l ∙ ap (λ (kind : AsmKind). built g.line kind) k

-- a text says one list of statements
pub says_once : ((text : List ℕ) (a b : List Token) → lex.IsTokens text a → lex.IsTokens text b → a ≡ b)
    → ((text : List ℕ) (t : List Token) (a b : List Statement) → IsSource text t a → IsSource text t b → a ≡ b)
    → (text : List ℕ) (ss ts : List Statement) → Says text ss → Says text ts → ss ≡ ts
says_once one_list one_source text ss ts a b =
    let same = one_list text b.cut a.cut b.tokens a.tokens in
    one_source text a.cut ss ts a.source (subst (λ (t : List Token). IsSource text t ts) same b.source)

module _ (below : Below) (text : List ℕ) where
  one_says : (ss ts : List Statement) → Says text ss → Says text ts → ss ≡ ts
  one_says = says_once below.one_list below.one_source text

  same_memories : (a b : Image) → a.prog ≡ b.prog → a.drom ≡ b.drom → a ≡ b
  same_memories a b p d =
      let file = below.some_file a in
      let one = file.1 in
      below.one_image file.0 a b one (record {
        len = one.len;
        each_byte = one.each_byte;
        prog = λ k h. rw (← p) (one.prog k h);
        drom = λ k h. rw (← d) (one.drom k h);
      })

  pub image_once : (a b : Image) → IsImageOfText text a → IsImageOfText text b → a ≡ b
  image_once a b x y =
      let same = one_says x.statements y.statements x.says y.says in
      same_memories a b
      (x.prog ∙ ap (λ (ss : List Statement). prog_filled text (all_names text ss) (zeros 2048) ss (all_counters text ss)) same ∙ sym y.prog)
      (x.drom ∙ ap (λ (ss : List Statement). drom_filled text (all_names text ss) (zeros 1024) ss (all_counters text ss)) same ∙ sym y.drom)

  bad_bytes : (ss : List Statement) (f : AsmFault) → Says text ss → IsFaultOfBytes text f → ⊥
  bad_bytes ss f s b = below.not_both text s.cut b.found s.tokens b.first

  bad_grammar : (ss : List Statement) (f : AsmFault) → Says text ss → IsFaultOfGrammar text f → ⊥
  bad_grammar ss f s g =
      let same = below.one_list text g.cut s.cut g.tokens s.tokens in
      below.not_bad text s.cut ss f.line s.source (subst (λ (t : List Token). IsFirstBad text t f.line) same g.first)

  bytes_grammar : (f g : AsmFault) → IsFaultOfBytes text f → IsFaultOfGrammar text g → ⊥
  bytes_grammar f g b h = below.not_both text h.cut b.found h.tokens b.first

  placing_values : (f g : AsmFault) → IsFaultOfPlacing text f → IsFaultOfValues text g → ⊥
  placing_values f g p v =
      some_apart f (sym v.placed ∙ ap (λ (ss : List Statement). placing_fault text ss) (one_says v.statements p.statements v.says p.says) ∙ p.first)

  pub image_or_fault : (image : Image) (f : AsmFault) → IsImageOfText text image → IsFirstFault text f → ⊥
  image_or_fault image f x (inl b) = bad_bytes x.statements f x.says b
  image_or_fault image f x (inr (inl g)) = bad_grammar x.statements f x.says g
  image_or_fault image f x (inr (inr (inl p))) =
      some_apart f (sym x.placed ∙ ap (λ (ss : List Statement). placing_fault text ss) (one_says x.statements p.statements x.says p.says) ∙ p.first)
  image_or_fault image f x (inr (inr (inr v))) =
      some_apart f (sym x.valued ∙ ap (λ (ss : List Statement). value_fault text ss) (one_says x.statements v.statements x.says v.says) ∙ v.first)

  pub fault_once : (f g : AsmFault) → IsFirstFault text f → IsFirstFault text g → f ≡ g
  fault_once f g (inl a) (inl b) =
      same_some f g (sym a.same ∙ ap of_bytes (below.one_byte text a.found b.found a.first b.first) ∙ b.same)
  fault_once f g (inl a) (inr (inl b)) = absurd (bytes_grammar f g a b)
  fault_once f g (inl a) (inr (inr (inl b))) = absurd (bad_bytes b.statements f b.says a)
  fault_once f g (inl a) (inr (inr (inr b))) = absurd (bad_bytes b.statements f b.says a)
  fault_once f g (inr (inl a)) (inl b) = absurd (bytes_grammar g f b a)
  fault_once f g (inr (inl a)) (inr (inl b)) =
      let same = below.one_list text b.cut a.cut b.tokens a.tokens in
      same_fault f g (below.one_line text a.cut f.line g.line a.first (subst (λ (t : List Token). IsFirstBad text t g.line) same b.first)) (a.same ∙ sym b.same)
  fault_once f g (inr (inl a)) (inr (inr (inl b))) = absurd (bad_grammar b.statements f b.says a)
  fault_once f g (inr (inl a)) (inr (inr (inr b))) = absurd (bad_grammar b.statements f b.says a)
  fault_once f g (inr (inr (inl a))) (inl b) = absurd (bad_bytes a.statements g a.says b)
  fault_once f g (inr (inr (inl a))) (inr (inl b)) = absurd (bad_grammar a.statements g a.says b)
  fault_once f g (inr (inr (inl a))) (inr (inr (inl b))) =
      same_some f g (sym a.first ∙ ap (λ (ss : List Statement). placing_fault text ss) (one_says a.statements b.statements a.says b.says) ∙ b.first)
  fault_once f g (inr (inr (inl a))) (inr (inr (inr b))) = absurd (placing_values f g a b)
  fault_once f g (inr (inr (inr a))) (inl b) = absurd (bad_bytes a.statements g a.says b)
  fault_once f g (inr (inr (inr a))) (inr (inl b)) = absurd (bad_grammar a.statements g a.says b)
  fault_once f g (inr (inr (inr a))) (inr (inr (inl b))) = absurd (placing_values g f b a)
  fault_once f g (inr (inr (inr a))) (inr (inr (inr b))) =
      same_some f g (sym a.first ∙ ap (λ (ss : List Statement). value_fault text ss) (one_says a.statements b.statements a.says b.says) ∙ b.first)
