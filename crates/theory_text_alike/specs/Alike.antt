-- Phrases of two texts that differ in bound names alone. Both have the same form, and each name of the one stands, at
-- its place, for what the name in the other stands for: the same binder, counted from the place, or declarations
-- with the same meaning. Bytes are free, and so are the names of binders.
use Rattle.std.specs.Prelude.{◌≡◌, ℕ, List, [], ◌∷◌, Option, Some, None}
use Rattle.htt_syntax.specs.Trees.{MonoTree}
use Rattle.theory_typing.specs.Positions.{plain_formula}
use Rattle.htt_parser_trees.specs.declared.place.Span.{Span}
use Rattle.htt_parser_trees.specs.declared.place.Binder.{Binder}
use Rattle.htt_parser_trees.specs.declared.mono.MonoName.{MonoName}
use Rattle.htt_parser_trees.specs.declared.mono.MonoName.TheVariants as mono_names
use Rattle.htt_parser_trees.specs.declared.tree.UnaryWord.{UnaryWord}
use Rattle.htt_parser_trees.specs.declared.tree.RawHeap.{RawHeap}
use Rattle.htt_parser_trees.specs.declared.tree.RawHeap.TheVariants as heaps
use Rattle.htt_parser_trees.specs.Trees as raw
use Rattle.theory_text_names.specs.Scopes.{Sort, a_mono, a_term, a_heap, Local, PredTree, Meaning, means_mono}
use Rattle.theory_text_names.specs.Scopes.{means_pred, means_rec, means_def, means_val, Scope, under, under_name}
use Rattle.theory_text_names.specs.Scopes.{at_heap, under_mem, under_heaps}
use Rattle.theory_text_names.specs.Uses.{Use, a_variable, the_hypothesis, a_declared, use_at, passed_over}
use Rattle.theory_text_sugar.specs.Sugar.{left_part, right_part}

-- a predicate without positions
abbrev pub plain_pred : PredTree → PredTree
plain_pred p = record { monos = p.monos; params = p.params; body = plain_formula p.body }

-- ---- names

-- the same meaning but for positions
pub data AlikeMeaning : Meaning → Meaning → Type 0 where
  same_mono : {t : MonoTree} → AlikeMeaning (means_mono t) (means_mono t)
  alike_preds : {p q : PredTree} → plain_pred p ≡ plain_pred q → AlikeMeaning (means_pred p) (means_pred q)
  same_rec : {number params : ℕ} → AlikeMeaning (means_rec number params) (means_rec number params)
  same_def : {number : ℕ} → AlikeMeaning (means_def number) (means_def number)
  same_val : {number : ℕ} → AlikeMeaning (means_val number) (means_val number)

pub data AlikeUse : Option Use → Option Use → Type 0 where
  both_unbound : AlikeUse None None
  same_variable : {n : ℕ} {s : Sort} → AlikeUse (Some (a_variable n s)) (Some (a_variable n s))
  same_hypothesis : {n : ℕ} → AlikeUse (Some (the_hypothesis n)) (Some (the_hypothesis n))
  alike_meanings : {m n : Meaning} → AlikeMeaning m n → AlikeUse (Some (a_declared m)) (Some (a_declared n))

-- two names stand for the same
abbrev pub AlikeName : Scope → Scope → Span → Span → Type 0
AlikeName s s' x x' = AlikeUse (use_at s x) (use_at s' x')

-- ---- heaps and monotypes

pub data AlikeHeap : Scope → Scope → RawHeap → RawHeap → Type 0 where
  alike_heap_name : {s s' : Scope} {x x' : Span} → AlikeName s s' x x' → AlikeHeap s s' (heaps.Name x) (heaps.Name x')
  alike_init : {s s' : Scope} {at at' : ℕ} {over over' : Option ℕ}
      → passed_over over ≡ passed_over over'
      → AlikeHeap s s' (heaps.Init at over) (heaps.Init at' over')
  alike_mem : {s s' : Scope} {at at' : ℕ} {over over' : Option ℕ}
      → passed_over over ≡ passed_over over'
      → AlikeHeap s s' (heaps.Mem at over) (heaps.Mem at' over')

pub data AlikeMonoName : Scope → Scope → MonoName → MonoName → Type 0 where
  alike_word : {s s' : Scope} {at at' : ℕ} → AlikeMonoName s s' (mono_names.Word at) (mono_names.Word at')
  alike_bool : {s s' : Scope} {at at' : ℕ} → AlikeMonoName s s' (mono_names.Bool at) (mono_names.Bool at')
  alike_loc : {s s' : Scope} {at at' : ℕ} → AlikeMonoName s s' (mono_names.Loc at) (mono_names.Loc at')
  alike_unit : {s s' : Scope} {at at' : ℕ} → AlikeMonoName s s' (mono_names.Unit at) (mono_names.Unit at')
  alike_mono_name : {s s' : Scope} {x x' : Span}
      → AlikeName s s' x x'
      → AlikeMonoName s s' (mono_names.Name x) (mono_names.Name x')

mutual
  pub data AlikeFactor : Scope → Scope → raw.RawFactorTree → raw.RawFactorTree → Type 0 where
    alike_m_name : {s s' : Scope} {name name' : MonoName}
        → AlikeMonoName s s' name name'
        → AlikeFactor s s' (raw.m_name name) (raw.m_name name')
    alike_m_brackets : {s s' : Scope} {at at' : ℕ} {mono mono' : raw.RawMonoTree}
        → AlikeMono s s' mono mono'
        → AlikeFactor s s' (raw.m_brackets at mono) (raw.m_brackets at' mono')

  pub data AlikeMono : Scope → Scope → raw.RawMonoTree → raw.RawMonoTree → Type 0 where
    alike_m_factor : {s s' : Scope} {factor factor' : raw.RawFactorTree}
        → AlikeFactor s s' factor factor'
        → AlikeMono s s' (raw.m_factor factor) (raw.m_factor factor')
    alike_m_pair : {s s' : Scope} {factor factor' : raw.RawFactorTree} {mono mono' : raw.RawMonoTree}
        → AlikeFactor s s' factor factor'
        → AlikeMono s s' mono mono'
        → AlikeMono s s' (raw.m_pair factor mono) (raw.m_pair factor' mono')

pub data AlikeMonos : Scope → Scope → List raw.RawMonoTree → List raw.RawMonoTree → Type 0 where
  alike_no_monos : {s s' : Scope} → AlikeMonos s s' [] []
  alike_more_monos : {s s' : Scope} {mono mono' : raw.RawMonoTree} {monos monos' : List raw.RawMonoTree}
      → AlikeMono s s' mono mono'
      → AlikeMonos s s' monos monos'
      → AlikeMonos s s' (mono ∷ monos) (mono' ∷ monos')

-- ---- phrases

-- under all parameters of a recursive function
abbrev pub under_all : Scope → raw.RawParamTrees → Scope
under_all s raw.no_params = s
under_all s (raw.more_params b ty params) = under_all (under s b a_term) params

mutual
  pub data AlikeTy : Scope → Scope → raw.RawTyTree → raw.RawTyTree → Type 0 where
    alike_y_fun : {s s' : Scope} {at at' : ℕ} {b b' : Binder} {argument argument' answer answer' : raw.RawTyTree}
        → AlikeTy s s' argument argument'
        → AlikeTy (under s b a_term) (under s' b' a_term) answer answer'
        → AlikeTy s s' (raw.y_fun at b argument answer) (raw.y_fun at' b' argument' answer')
    alike_y_all : {s s' : Scope} {at at' : ℕ} {a a' : Span} {body body' : raw.RawTyTree}
        → AlikeTy (under_name s a a_mono) (under_name s' a' a_mono) body body'
        → AlikeTy s s' (raw.y_all at a body) (raw.y_all at' a' body')
    alike_y_hoare : {s s' : Scope} {at at' : ℕ} {spec spec' : raw.RawTripleTree}
        → AlikeTriple s s' spec spec'
        → AlikeTy s s' (raw.y_hoare at spec) (raw.y_hoare at' spec')
    alike_y_mono : {s s' : Scope} {mono mono' : raw.RawMonoTree}
        → AlikeMono s s' mono mono'
        → AlikeTy s s' (raw.y_mono mono) (raw.y_mono mono')

  pub data AlikeTriple : Scope → Scope → raw.RawTripleTree → raw.RawTripleTree → Type 0 where
    alike_triple_of : {s s' : Scope} {pre pre' post post' : raw.RawFormulaTree} {b b' : Binder}
        {result result' : raw.RawMonoTree}
        → AlikeFormula (under_mem s) (under_mem s') pre pre'
        → AlikeMono s s' result result'
        → AlikeFormula (under_heaps (under s b a_term)) (under_heaps (under s' b' a_term)) post post'
        → AlikeTriple s s' (raw.triple_of pre b result post) (raw.triple_of pre' b' result' post')

  pub data AlikeTerm : Scope → Scope → raw.RawTermTree → raw.RawTermTree → Type 0 where
    alike_t_fun : {s s' : Scope} {at at' : ℕ} {b b' : Binder} {body body' : raw.RawTermTree}
        → AlikeTerm (under s b a_term) (under s' b' a_term) body body'
        → AlikeTerm s s' (raw.t_fun at b body) (raw.t_fun at' b' body')
    alike_t_fun_mono : {s s' : Scope} {at at' : ℕ} {a a' : Span} {body body' : raw.RawTermTree}
        → AlikeTerm (under_name s a a_mono) (under_name s' a' a_mono) body body'
        → AlikeTerm s s' (raw.t_fun_mono at a body) (raw.t_fun_mono at' a' body')
    alike_t_do : {s s' : Scope} {at at' : ℕ} {comp comp' : raw.RawCompTree}
        → AlikeComp s s' comp comp'
        → AlikeTerm s s' (raw.t_do at comp) (raw.t_do at' comp')
    alike_t_fix : {s s' : Scope} {at at' : ℕ} {f f' : Span} {params params' : raw.RawParamTrees}
        {spec spec' : raw.RawTripleTree} {comp comp' : raw.RawCompTree}
        → AlikeParams s s' params params'
        → AlikeTriple (under_all s params) (under_all s' params') spec spec'
        → AlikeComp (under_name (under_all s params) f a_term) (under_name (under_all s' params') f' a_term) comp comp'
        → AlikeTerm s s' (raw.t_fix at f params spec comp) (raw.t_fix at' f' params' spec' comp')
    alike_t_rel : {s s' : Scope} {rel rel' : raw.RawRelTree}
        → AlikeRel s s' rel rel'
        → AlikeTerm s s' (raw.t_rel rel) (raw.t_rel rel')

  pub data AlikeParams : Scope → Scope → raw.RawParamTrees → raw.RawParamTrees → Type 0 where
    alike_no_params : {s s' : Scope} → AlikeParams s s' raw.no_params raw.no_params
    alike_more_params : {s s' : Scope} {b b' : Binder} {ty ty' : raw.RawTyTree} {params params' : raw.RawParamTrees}
        → AlikeTy s s' ty ty'
        → AlikeParams (under s b a_term) (under s' b' a_term) params params'
        → AlikeParams s s' (raw.more_params b ty params) (raw.more_params b' ty' params')

  pub data AlikeRel : Scope → Scope → raw.RawRelTree → raw.RawRelTree → Type 0 where
    alike_r_sum : {s s' : Scope} {sum sum' : raw.RawSumTree}
        → AlikeSum s s' sum sum'
        → AlikeRel s s' (raw.r_sum sum) (raw.r_sum sum')
    alike_r_less : {s s' : Scope} {left left' right right' : raw.RawSumTree}
        → AlikeSum s s' left left'
        → AlikeSum s s' right right'
        → AlikeRel s s' (raw.r_less left right) (raw.r_less left' right')

  pub data AlikeSum : Scope → Scope → raw.RawSumTree → raw.RawSumTree → Type 0 where
    alike_s_sum : {s s' : Scope} {first first' : raw.RawProdTree} {rest rest' : raw.RawSumRestTree}
        → AlikeProd s s' first first'
        → AlikeSumRest s s' rest rest'
        → AlikeSum s s' (raw.s_sum first rest) (raw.s_sum first' rest')

  pub data AlikeSumRest : Scope → Scope → raw.RawSumRestTree → raw.RawSumRestTree → Type 0 where
    alike_s_end : {s s' : Scope} → AlikeSumRest s s' raw.s_end raw.s_end
    alike_s_more : {s s' : Scope} {sign : raw.SumSign} {operand operand' : raw.RawProdTree}
        {rest rest' : raw.RawSumRestTree}
        → AlikeProd s s' operand operand'
        → AlikeSumRest s s' rest rest'
        → AlikeSumRest s s' (raw.s_more sign operand rest) (raw.s_more sign operand' rest')

  pub data AlikeProd : Scope → Scope → raw.RawProdTree → raw.RawProdTree → Type 0 where
    alike_x_prod : {s s' : Scope} {first first' : raw.RawApplTree} {rest rest' : raw.RawProdRestTree}
        → AlikeAppl s s' first first'
        → AlikeProdRest s s' rest rest'
        → AlikeProd s s' (raw.x_prod first rest) (raw.x_prod first' rest')

  pub data AlikeProdRest : Scope → Scope → raw.RawProdRestTree → raw.RawProdRestTree → Type 0 where
    alike_x_end : {s s' : Scope} → AlikeProdRest s s' raw.x_end raw.x_end
    alike_x_more : {s s' : Scope} {sign : raw.ProdSign} {operand operand' : raw.RawApplTree}
        {rest rest' : raw.RawProdRestTree}
        → AlikeAppl s s' operand operand'
        → AlikeProdRest s s' rest rest'
        → AlikeProdRest s s' (raw.x_more sign operand rest) (raw.x_more sign operand' rest')

  pub data AlikeAppl : Scope → Scope → raw.RawApplTree → raw.RawApplTree → Type 0 where
    alike_l_unary : {s s' : Scope} {at at' : ℕ} {word : UnaryWord} {operand operand' : raw.RawAtomTree}
        → AlikeAtom s s' operand operand'
        → AlikeAppl s s' (raw.l_unary at word operand) (raw.l_unary at' word operand')
    alike_l_apply : {s s' : Scope} {head head' : raw.RawAtomTree} {parts parts' : raw.RawPartTrees}
        → AlikeAtom s s' head head'
        → AlikeParts s s' parts parts'
        → AlikeAppl s s' (raw.l_apply head parts) (raw.l_apply head' parts')

  pub data AlikeParts : Scope → Scope → raw.RawPartTrees → raw.RawPartTrees → Type 0 where
    alike_no_parts : {s s' : Scope} → AlikeParts s s' raw.no_parts raw.no_parts
    alike_atom_part : {s s' : Scope} {argument argument' : raw.RawAtomTree} {parts parts' : raw.RawPartTrees}
        → AlikeAtom s s' argument argument'
        → AlikeParts s s' parts parts'
        → AlikeParts s s' (raw.atom_part argument parts) (raw.atom_part argument' parts')
    alike_mono_part : {s s' : Scope} {mono mono' : raw.RawMonoTree} {parts parts' : raw.RawPartTrees}
        → AlikeMono s s' mono mono'
        → AlikeParts s s' parts parts'
        → AlikeParts s s' (raw.mono_part mono parts) (raw.mono_part mono' parts')

  pub data AlikeAtom : Scope → Scope → raw.RawAtomTree → raw.RawAtomTree → Type 0 where
    alike_a_name : {s s' : Scope} {span span' : Span}
        → AlikeName s s' span span'
        → AlikeAtom s s' (raw.a_name span) (raw.a_name span')
    alike_a_number : {s s' : Scope} {at at' value : ℕ} →
        AlikeAtom s s' (raw.a_number at value) (raw.a_number at' value)
    alike_a_true : {s s' : Scope} {at at' : ℕ} → AlikeAtom s s' (raw.a_true at) (raw.a_true at')
    alike_a_false : {s s' : Scope} {at at' : ℕ} → AlikeAtom s s' (raw.a_false at) (raw.a_false at')
    alike_a_null : {s s' : Scope} {at at' : ℕ} → AlikeAtom s s' (raw.a_null at) (raw.a_null at')
    alike_a_place : {s s' : Scope} {at at' value : ℕ} → AlikeAtom s s' (raw.a_place at value) (raw.a_place at' value)
    alike_a_eq : {s s' : Scope} {at at' : ℕ} {mono mono' : raw.RawMonoTree} {left left' right right' : raw.RawTermTree}
        → AlikeMono s s' mono mono'
        → AlikeTerm s s' left left'
        → AlikeTerm s s' right right'
        → AlikeAtom s s' (raw.a_eq at mono left right) (raw.a_eq at' mono' left' right')
    alike_a_sel : {s s' : Scope} {at at' : ℕ} {mono mono' : raw.RawMonoTree}
        {test test' on_true on_true' on_false on_false' : raw.RawTermTree}
        → AlikeMono s s' mono mono'
        → AlikeTerm s s' test test'
        → AlikeTerm s s' on_true on_true'
        → AlikeTerm s s' on_false on_false'
        → AlikeAtom s s' (raw.a_sel at mono test on_true on_false) (raw.a_sel at' mono' test' on_true' on_false')
    alike_a_unit : {s s' : Scope} {at at' : ℕ} → AlikeAtom s s' (raw.a_unit at) (raw.a_unit at')
    alike_a_brackets : {s s' : Scope} {at at' : ℕ} {term term' : raw.RawTermTree}
        → AlikeTerm s s' term term'
        → AlikeAtom s s' (raw.a_brackets at term) (raw.a_brackets at' term')
    alike_a_pair : {s s' : Scope} {at at' : ℕ} {left left' right right' : raw.RawTermTree}
        → AlikeTerm s s' left left'
        → AlikeTerm s s' right right'
        → AlikeAtom s s' (raw.a_pair at left right) (raw.a_pair at' left' right')
    alike_a_annotated : {s s' : Scope} {at at' : ℕ} {term term' : raw.RawTermTree} {ty ty' : raw.RawTyTree}
        → AlikeTerm s s' term term'
        → AlikeTy s s' ty ty'
        → AlikeAtom s s' (raw.a_annotated at term ty) (raw.a_annotated at' term' ty')

  pub data AlikeTerms : Scope → Scope → raw.RawTermTrees → raw.RawTermTrees → Type 0 where
    alike_no_terms : {s s' : Scope} → AlikeTerms s s' raw.no_terms raw.no_terms
    alike_more_terms : {s s' : Scope} {term term' : raw.RawTermTree} {terms terms' : raw.RawTermTrees}
        → AlikeTerm s s' term term'
        → AlikeTerms s s' terms terms'
        → AlikeTerms s s' (raw.more_terms term terms) (raw.more_terms term' terms')

  pub data AlikeComp : Scope → Scope → raw.RawCompTree → raw.RawCompTree → Type 0 where
    alike_c_ret : {s s' : Scope} {term term' : raw.RawTermTree}
        → AlikeTerm s s' term term'
        → AlikeComp s s' (raw.c_ret term) (raw.c_ret term')
    alike_c_step : {s s' : Scope} {b b' : Binder} {step step' : raw.RawStepTree} {comp comp' : raw.RawCompTree}
        → AlikeStep s s' step step'
        → AlikeComp (under s b a_term) (under s' b' a_term) comp comp'
        → AlikeComp s s' (raw.c_step b step comp) (raw.c_step b' step' comp')

  pub data AlikeStep : Scope → Scope → raw.RawStepTree → raw.RawStepTree → Type 0 where
    alike_s_alloc : {s s' : Scope} {mono mono' : raw.RawMonoTree} {value value' : raw.RawAtomTree}
        → AlikeMono s s' mono mono'
        → AlikeAtom s s' value value'
        → AlikeStep s s' (raw.s_alloc mono value) (raw.s_alloc mono' value')
    alike_s_get : {s s' : Scope} {mono mono' : raw.RawMonoTree} {place place' : raw.RawAtomTree}
        → AlikeMono s s' mono mono'
        → AlikeAtom s s' place place'
        → AlikeStep s s' (raw.s_get mono place) (raw.s_get mono' place')
    alike_s_set : {s s' : Scope} {mono mono' : raw.RawMonoTree} {place place' value value' : raw.RawAtomTree}
        → AlikeMono s s' mono mono'
        → AlikeAtom s s' place place'
        → AlikeAtom s s' value value'
        → AlikeStep s s' (raw.s_set mono place value) (raw.s_set mono' place' value')
    alike_s_free : {s s' : Scope} {mono mono' : raw.RawMonoTree} {place place' : raw.RawAtomTree}
        → AlikeMono s s' mono mono'
        → AlikeAtom s s' place place'
        → AlikeStep s s' (raw.s_free mono place) (raw.s_free mono' place')
    alike_s_if : {s s' : Scope} {mono mono' : raw.RawMonoTree} {test test' : raw.RawAtomTree}
        {on_true on_true' on_false on_false' : raw.RawCompTree}
        → AlikeMono s s' mono mono'
        → AlikeAtom s s' test test'
        → AlikeComp s s' on_true on_true'
        → AlikeComp s s' on_false on_false'
        → AlikeStep s s' (raw.s_if mono test on_true on_false) (raw.s_if mono' test' on_true' on_false')
    alike_s_claim : {s s' : Scope} {formula formula' : raw.RawFormulaTree}
        → AlikeFormula (under_heaps s) (under_heaps s') formula formula'
        → AlikeStep s s' (raw.s_claim formula) (raw.s_claim formula')
    alike_s_run : {s s' : Scope} {routine routine' : raw.RawApplTree}
        → AlikeAppl s s' routine routine'
        → AlikeStep s s' (raw.s_run routine) (raw.s_run routine')

  pub data AlikeFormula : Scope → Scope → raw.RawFormulaTree → raw.RawFormulaTree → Type 0 where
    alike_f_all_t : {s s' : Scope} {at at' : ℕ} {b b' : Binder} {mono mono' : raw.RawMonoTree}
        {body body' : raw.RawFormulaTree}
        → AlikeMono s s' mono mono'
        → AlikeFormula (under s b a_term) (under s' b' a_term) body body'
        → AlikeFormula s s' (raw.f_all at b (raw.over_mono mono) body) (raw.f_all at' b' (raw.over_mono mono') body')
    alike_f_all_h : {s s' : Scope} {at at' : ℕ} {b b' : Binder} {body body' : raw.RawFormulaTree}
        → AlikeFormula (under s b a_heap) (under s' b' a_heap) body body'
        → AlikeFormula s s' (raw.f_all at b raw.over_heap body) (raw.f_all at' b' raw.over_heap body')
    alike_f_ex_t : {s s' : Scope} {at at' : ℕ} {b b' : Binder} {mono mono' : raw.RawMonoTree}
        {body body' : raw.RawFormulaTree}
        → AlikeMono s s' mono mono'
        → AlikeFormula (under s b a_term) (under s' b' a_term) body body'
        → AlikeFormula s s' (raw.f_ex at b (raw.over_mono mono) body) (raw.f_ex at' b' (raw.over_mono mono') body')
    alike_f_ex_h : {s s' : Scope} {at at' : ℕ} {b b' : Binder} {body body' : raw.RawFormulaTree}
        → AlikeFormula (under s b a_heap) (under s' b' a_heap) body body'
        → AlikeFormula s s' (raw.f_ex at b raw.over_heap body) (raw.f_ex at' b' raw.over_heap body')
    alike_f_disj : {s s' : Scope} {disj disj' : raw.RawDisjTree}
        → AlikeDisj s s' disj disj'
        → AlikeFormula s s' (raw.f_disj disj) (raw.f_disj disj')
    alike_f_implies : {s s' : Scope} {disj disj' : raw.RawDisjTree} {formula formula' : raw.RawFormulaTree}
        → AlikeDisj s s' disj disj'
        → AlikeFormula s s' formula formula'
        → AlikeFormula s s' (raw.f_implies disj formula) (raw.f_implies disj' formula')

  pub data AlikeDisj : Scope → Scope → raw.RawDisjTree → raw.RawDisjTree → Type 0 where
    alike_d_conj : {s s' : Scope} {conj conj' : raw.RawConjTree}
        → AlikeConj s s' conj conj'
        → AlikeDisj s s' (raw.d_conj conj) (raw.d_conj conj')
    alike_d_or : {s s' : Scope} {conj conj' : raw.RawConjTree} {disj disj' : raw.RawDisjTree}
        → AlikeConj s s' conj conj'
        → AlikeDisj s s' disj disj'
        → AlikeDisj s s' (raw.d_or conj disj) (raw.d_or conj' disj')

  pub data AlikeConj : Scope → Scope → raw.RawConjTree → raw.RawConjTree → Type 0 where
    alike_j_star : {s s' : Scope} {star star' : raw.RawStarTree}
        → AlikeStar s s' star star'
        → AlikeConj s s' (raw.j_star star) (raw.j_star star')
    alike_j_and : {s s' : Scope} {star star' : raw.RawStarTree} {conj conj' : raw.RawConjTree}
        → AlikeStar s s' star star'
        → AlikeConj s s' conj conj'
        → AlikeConj s s' (raw.j_and star conj) (raw.j_and star' conj')

  pub data AlikeStar : Scope → Scope → raw.RawStarTree → raw.RawStarTree → Type 0 where
    alike_k_fatom : {s s' : Scope} {fatom fatom' : raw.RawFatomTree}
        → AlikeFatom s s' fatom fatom'
        → AlikeStar s s' (raw.k_fatom fatom) (raw.k_fatom fatom')
    alike_k_times : {s s' : Scope} {fatom fatom' : raw.RawFatomTree} {others others' : raw.RawStarTree}
        → AlikeFatom (left_part s) (left_part s') fatom fatom'
        → AlikeStar (right_part s) (right_part s') others others'
        → AlikeStar s s' (raw.k_times fatom others) (raw.k_times fatom' others')

  pub data AlikeFatom : Scope → Scope → raw.RawFatomTree → raw.RawFatomTree → Type 0 where
    alike_g_tt : {s s' : Scope} {at at' : ℕ} → AlikeFatom s s' (raw.g_tt at) (raw.g_tt at')
    alike_g_ff : {s s' : Scope} {at at' : ℕ} → AlikeFatom s s' (raw.g_ff at) (raw.g_ff at')
    alike_g_emp : {s s' : Scope} {at at' : ℕ} → AlikeFatom s s' (raw.g_emp at) (raw.g_emp at')
    alike_g_brackets : {s s' : Scope} {at at' : ℕ} {formula formula' : raw.RawFormulaTree}
        → AlikeFormula s s' formula formula'
        → AlikeFatom s s' (raw.g_brackets at formula) (raw.g_brackets at' formula')
    alike_g_at_heap : {s s' : Scope} {at at' : ℕ} {heap heap' : RawHeap} {formula formula' : raw.RawFormulaTree}
        → AlikeHeap s s' heap heap'
        → ((k : ℕ) → AlikeFormula (at_heap s k) (at_heap s' k) formula formula')
        → AlikeFatom s s' (raw.g_at_heap at heap formula) (raw.g_at_heap at' heap' formula')
    alike_g_emp_of : {s s' : Scope} {at at' : ℕ} {heap heap' : RawHeap}
        → AlikeHeap s s' heap heap'
        → AlikeFatom s s' (raw.g_emp_of at heap) (raw.g_emp_of at' heap')
    alike_g_same : {s s' : Scope} {at at' : ℕ} {left left' right right' : RawHeap}
        → AlikeHeap s s' left left'
        → AlikeHeap s s' right right'
        → AlikeFatom s s' (raw.g_same at left right) (raw.g_same at' left' right')
    alike_g_join : {s s' : Scope} {at at' : ℕ} {whole whole' left left' right right' : RawHeap}
        → AlikeHeap s s' whole whole'
        → AlikeHeap s s' left left'
        → AlikeHeap s s' right right'
        → AlikeFatom s s' (raw.g_join at whole left right) (raw.g_join at' whole' left' right')
    alike_g_cell : {s s' : Scope} {at at' : ℕ} {mono mono' : raw.RawMonoTree} {heap heap' : RawHeap}
        {place place' value value' : raw.RawTermTree}
        → AlikeMono s s' mono mono'
        → AlikeHeap s s' heap heap'
        → AlikeTerm s s' place place'
        → AlikeTerm s s' value value'
        → AlikeFatom s s' (raw.g_cell at mono heap place value) (raw.g_cell at' mono' heap' place' value')
    alike_g_block : {s s' : Scope} {at at' : ℕ} {mono mono' : raw.RawMonoTree} {heap heap' : RawHeap}
        {place place' : raw.RawTermTree}
        → AlikeMono s s' mono mono'
        → AlikeHeap s s' heap heap'
        → AlikeTerm s s' place place'
        → AlikeFatom s s' (raw.g_block at mono heap place) (raw.g_block at' mono' heap' place')
    alike_g_use : {s s' : Scope} {at at' : ℕ} {name name' : Span} {monos monos' : List raw.RawMonoTree}
        {arguments arguments' : raw.RawTermTrees}
        → AlikeName s s' name name'
        → AlikeMonos s s' monos monos'
        → AlikeTerms s s' arguments arguments'
        → AlikeFatom s s' (raw.g_use at name monos arguments) (raw.g_use at' name' monos' arguments')
    alike_g_use_at : {s s' : Scope} {at at' : ℕ} {name name' : Span} {index index' : raw.RawTermTree}
        {arguments arguments' : raw.RawTermTrees}
        → AlikeName s s' name name'
        → AlikeTerm s s' index index'
        → AlikeTerms s s' arguments arguments'
        → AlikeFatom s s' (raw.g_use_at at name index arguments) (raw.g_use_at at' name' index' arguments')
    alike_g_use_at_heap : {s s' : Scope} {at at' : ℕ} {name name' : Span} {heap heap' : RawHeap}
        {index index' : raw.RawTermTree} {arguments arguments' : raw.RawTermTrees}
        → AlikeName s s' name name'
        → AlikeHeap s s' heap heap'
        → AlikeTerm s s' index index'
        → AlikeTerms s s' arguments arguments'
        → AlikeFatom s s' (raw.g_use_at_heap at name heap index arguments)
        (raw.g_use_at_heap at' name' heap' index' arguments')
    alike_g_eq : {s s' : Scope} {left left' right right' : raw.RawRelTree} {mono mono' : raw.RawMonoTree}
        → AlikeRel s s' left left'
        → AlikeMono s s' mono mono'
        → AlikeRel s s' right right'
        → AlikeFatom s s' (raw.g_eq left mono right) (raw.g_eq left' mono' right')
    alike_g_points : {s s' : Scope} {place place' value value' : raw.RawRelTree} {mono mono' : raw.RawMonoTree}
        → AlikeRel s s' place place'
        → AlikeMono s s' mono mono'
        → AlikeRel s s' value value'
        → AlikeFatom s s' (raw.g_points place mono value) (raw.g_points place' mono' value')
    alike_g_points_any : {s s' : Scope} {place place' : raw.RawRelTree} {mono mono' : raw.RawMonoTree}
        → AlikeRel s s' place place'
        → AlikeMono s s' mono mono'
        → AlikeFatom s s' (raw.g_points_any place mono) (raw.g_points_any place' mono')

-- ---- scopes

-- as many binders of the same sorts
abbrev pub SameSorts : List Local → List Local → Type 0
SameSorts [] [] = Unit {0}
SameSorts (l ∷ ls) (k ∷ ks) = (l.sort ≡ k.sort) × SameSorts ls ks
SameSorts _ _ = ⊥

-- scopes of two texts whose binders have the same sorts, with the same current heap
pub record AreAlike (s s' : Scope) : Type 0 where
  pub sorts : SameSorts s.locals s'.locals
  pub current : s.current ≡ s'.current
