-- Printed phrases that are read: as what they are, and at the places where brackets may stand.
use Rattle.std.proofs.Common.{◌≡◌, ℕ, zero, suc, ◌+◌, List, [], ◌∷◌, ◌++◌, Bool, true, false, cond, refl, sym, ◌∙◌, ap, subst, arith}
use Rattle.std.specs.Prelude.{Option, Some, None, Result, Ok, Err}
use Rattle.htt_lexer_tokens.specs.declared.tokens.Kind.TheVariants as kinds
use Rattle.htt_lexer_tokens.specs.declared.tokens.Token.{Token}
use Rattle.htt_lexer_tokens.specs.declared.tokens.Sign.TheVariants.{OpenParenSign, CloseParenSign, OpenBracketSign, CloseBracketSign}
use Rattle.htt_syntax.specs.Trees.{MonoTree, TermTree, FormulaTree, t_app, t_inst}
use Rattle.htt_parser_trees.specs.Trees as raw
use Rattle.theory_grammar.specs.Marks as marks
use Rattle.theory_grammar.specs.Marks.{Mark, ◌⨟◌}
use Rattle.theory_grammar.specs.Grammar as grammar
use Rattle.theory_text_names.specs.Stops.{Stop, ◌>>=◌}
use Rattle.theory_text_names.specs.Scopes.{Scope}
use Rattle.theory_text.specs.Bytes.{byte_of_atom}
use Rattle.theory_text.specs.Monotypes.{factor_comes, mono_comes}
use Rattle.theory_text.specs.Phrases.{term_comes, rel_comes, appl_comes, parts_come, atom_comes, formula_comes, fatom_comes}
use Rattle.theory_printing.specs.Pieces.{Printed, one, ◌▹◌, deeper, operand, in_parens, in_brackets, a_sign}
use Rattle.theory_printing.specs.Brackets.{Form, an_atom, an_application, a_prefixed, an_operation, a_binding, Place, a_side, an_operand, a_run, a_head}
use Rattle.theory_printing.specs.Brackets.{needs_brackets}
use Rattle.theory_printing_tokens.specs.Spoken.{Spoken, KindToken}
use Rattle.theory_printing_forms.specs.Readings.{MeetsPrinted}
use Rattle.theory_printing_forms.specs.Said.{said_term, said_formula}
use Rattle.theory_printing_forms.specs.Readings.{Reads, as_it_is, ReadsMono, ReadsFactor, NaturalMono, MonoRead, mono_at, ReadsTerm, ReadsRel, ReadsAppl, ReadsAtom, count_parts, ReadsHead, NaturalTerm, TermRead, term_at, IsRead, ReadsFormula, ReadsFatom, NaturalFormula, FormulaRead, formula_at}
use Rattle.theory_printing_forms.proofs.Meets.{Goes, go, goes_then, goes, deep, numbered, alone, goes_sign_at, ends_sign}

given_is_taken : {A B : Type 0} (x : A) (f : A → Result B Stop) → (Ok x >>= f) ≡ f x
unfolding ◌>>=◌
given_is_taken x f = refl

pub bind : {A B : Type 0} {m : Result A Stop} {x : A} (f : A → Result B Stop) {y : Result B Stop} → m ≡ Ok x → f x ≡ y → (m >>= f) ≡ y
bind {x = x} f {y = y} e k = subst (λ r. (r >>= f) ≡ y) (sym e) (given_is_taken x f ∙ k)

-- ---- monotypes, which have no positions

pub any_mono : {r : Scope} {l : ℕ} {p : Printed} {v : Spoken r.text p} {told : MonoTree} (form : Form) → MonoRead r l p v told form → ReadsMono r l p v told
unfolding grammar.mono mono_comes
any_mono an_atom h =
    let f = h.natural in
    record { tree = raw.m_factor f.tree; meets = record { meets = f.meets.meets }; given = f.given; comes = f.comes; same = f.same }
any_mono an_application h = h.natural
any_mono a_prefixed h = h.natural
any_mono an_operation h = h.natural
any_mono a_binding h = h.natural

mono_in_parens : (r : Scope) {l : ℕ} {p : Printed} {told : MonoTree} (v : Spoken r.text (in_parens p))
    → ReadsMono r l p v.1.0 told
    → ReadsFactor r l (in_parens p) v told
unfolding grammar.mono mono_comes
mono_in_parens r {l} v h =
    record {
      tree = raw.m_brackets v.0.token.from h.tree;
      meets = go (goes_sign_at r.text l OpenParenSign v.0) (go (goes h.meets) (ends_sign r.text l CloseParenSign v.1.1));
      given = h.given;
      comes = h.comes;
      same = h.same;
    }

pub factor_at : {r : Scope} {l : ℕ} {p : Printed} {told : MonoTree} (form : Form)
    → ((v : Spoken r.text p) → MonoRead r l p v told form)
    → (v : Spoken r.text (mono_at form p))
    → ReadsFactor r l (mono_at form p) v told
unfolding needs_brackets
factor_at an_atom h v = (h v).natural
factor_at an_application h v = mono_in_parens _ v (h v.1.0).natural
factor_at a_prefixed h v = mono_in_parens _ v (h v.1.0).natural
factor_at an_operation h v = mono_in_parens _ v (h v.1.0).natural
factor_at a_binding h v = mono_in_parens _ v (h v.1.0).natural

-- ---- terms

head_of_atom : {r : Scope} {l : ℕ} {p : Printed} {v : Spoken r.text p} {told : TermTree} → ReadsAtom r l p v told → ReadsHead r l p v told zero
unfolding grammar.term term_comes
head_of_atom h =
    record {
      head = h.tree;
      parts = raw.no_parts;
      count = refl;
      meets = alone h.meets;
      first = h.given;
      first_comes = h.comes;
      given = h.given;
      comes = refl;
      same = h.same;
    }

appl_of_head : {r : Scope} {l : ℕ} {p : Printed} {v : Spoken r.text p} {told : TermTree} {arguments : ℕ}
    → ReadsHead r l p v told arguments
    → ReadsAppl r l p v told
unfolding grammar.term term_comes
appl_of_head h = record { tree = raw.l_apply h.head h.parts; meets = h.meets; given = h.given; comes = bind _ h.first_comes h.comes; same = h.same }

rel_of_appl : (r : Scope) {l : ℕ} {p : Printed} {v : Spoken r.text p} {told : TermTree} → ReadsAppl r l p v told → ReadsRel r l p v told
unfolding grammar.term term_comes
rel_of_appl r h =
    record {
      tree = raw.r_sum (raw.s_sum (raw.x_prod h.tree raw.x_end) raw.s_end);
      meets = alone (alone h.meets);
      given = h.given;
      comes = bind _ (bind _ h.comes refl) refl;
      same = h.same;
    }

term_of_rel : (r : Scope) {l : ℕ} {p : Printed} {v : Spoken r.text p} {told : TermTree} → ReadsRel r l p v told → ReadsTerm r l p v told
unfolding grammar.term term_comes
term_of_rel r h = record { tree = raw.t_rel h.tree; meets = record { meets = h.meets.meets }; given = h.given; comes = h.comes; same = h.same }

pub any_term : {r : Scope} {l : ℕ} {p : Printed} {v : Spoken r.text p} {told : TermTree} {arguments : ℕ} (form : Form)
    → TermRead r l p v told arguments form
    → ReadsTerm r l p v told
any_term an_atom h = term_of_rel _ (rel_of_appl _ (appl_of_head (head_of_atom h.natural.0)))
any_term an_application h = term_of_rel _ (rel_of_appl _ (appl_of_head h.natural))
any_term a_prefixed h = term_of_rel _ (rel_of_appl _ h.natural.0)
any_term an_operation h = term_of_rel _ h.natural.0
any_term a_binding h = h.natural.0

term_in_parens : (r : Scope) {l : ℕ} {p : Printed} {told : TermTree} (v : Spoken r.text (in_parens (deeper p)))
    → ReadsTerm r (suc l) p v.1.0 told
    → ReadsAtom r l (in_parens (deeper p)) v told
unfolding grammar.term term_comes
term_in_parens r {l} v h =
    record {
      tree = raw.a_brackets v.0.token.from h.tree;
      meets = go (goes_sign_at r.text l OpenParenSign v.0) (go (goes (deep h.meets)) (ends_sign r.text l CloseParenSign v.1.1));
      given = h.given;
      comes = h.comes;
      same = h.same;
    }

pub atom_at : {r : Scope} {p : Printed} {told : TermTree} {arguments : ℕ} (form : Form) (l : ℕ)
    → IsRead r p told arguments form
    → (v : Spoken r.text (term_at an_operand form p))
    → ReadsAtom r l (term_at an_operand form p) v told
unfolding needs_brackets
atom_at an_atom l h v = (h l v).natural.0
atom_at an_application l h v = term_in_parens _ v (any_term an_application (h (suc l) v.1.0))
atom_at a_prefixed l h v = term_in_parens _ v (any_term a_prefixed (h (suc l) v.1.0))
atom_at an_operation l h v = term_in_parens _ v (any_term an_operation (h (suc l) v.1.0))
atom_at a_binding l h v = term_in_parens _ v (any_term a_binding (h (suc l) v.1.0))

without_arguments : {r : Scope} {l : ℕ} {p : Printed} {v : Spoken r.text p} {told : TermTree} {arguments : ℕ}
    → arguments ≡ zero
    → ReadsHead r l p v told zero
    → ReadsHead r l p v told arguments
without_arguments {r} {l} {p} {v} {told} e h = subst (λ n. ReadsHead r l p v told n) (sym e) h

pub head_at : {r : Scope} {p : Printed} {told : TermTree} {arguments : ℕ} (form : Form) (l : ℕ)
    → IsRead r p told arguments form
    → (v : Spoken r.text (term_at a_head form p))
    → ReadsHead r l (term_at a_head form p) v told arguments
unfolding needs_brackets
head_at an_atom l h v = let m = (h l v).natural in without_arguments m.1 (head_of_atom m.0)
head_at an_application l h v = (h l v).natural
head_at a_prefixed l h v = let m = h (suc l) v.1.0 in without_arguments m.natural.1 (head_of_atom (term_in_parens _ v (any_term a_prefixed m)))
head_at an_operation l h v = let m = h (suc l) v.1.0 in without_arguments m.natural.1 (head_of_atom (term_in_parens _ v (any_term an_operation m)))
head_at a_binding l h v = let m = h (suc l) v.1.0 in without_arguments m.natural.1 (head_of_atom (term_in_parens _ v (any_term a_binding m)))

pub run_at : {r : Scope} {p : Printed} {told : TermTree} {arguments : ℕ} (form : Form) (l : ℕ)
    → IsRead r p told arguments form
    → (v : Spoken r.text (term_at a_run form p))
    → ReadsAppl r l (term_at a_run form p) v told
unfolding needs_brackets
run_at an_atom l h v = appl_of_head (head_of_atom (h l v).natural.0)
run_at an_application l h v = appl_of_head (h l v).natural
run_at a_prefixed l h v = (h l v).natural.0
run_at an_operation l h v = appl_of_head (head_of_atom (term_in_parens _ v (any_term an_operation (h (suc l) v.1.0))))
run_at a_binding l h v = appl_of_head (head_of_atom (term_in_parens _ v (any_term a_binding (h (suc l) v.1.0))))

pub side_at : {r : Scope} {p : Printed} {told : TermTree} {arguments : ℕ} (form : Form) (l : ℕ)
    → IsRead r p told arguments form
    → (v : Spoken r.text (term_at a_side form p))
    → ReadsRel r l (term_at a_side form p) v told
unfolding needs_brackets
side_at an_atom l h v = rel_of_appl _ (appl_of_head (head_of_atom (h l v).natural.0))
side_at an_application l h v = rel_of_appl _ (appl_of_head (h l v).natural)
side_at a_prefixed l h v = rel_of_appl _ (h l v).natural.0
side_at an_operation l h v = (h l v).natural.0
side_at a_binding l h v = rel_of_appl _ (appl_of_head (head_of_atom (term_in_parens _ v (any_term a_binding (h (suc l) v.1.0)))))

-- ---- formulas

formula_of_fatom : (r : Scope) {l : ℕ} {p : Printed} {v : Spoken r.text p} {told : FormulaTree} → ReadsFatom r l p v told → ReadsFormula r l p v told
unfolding grammar.term term_comes
formula_of_fatom r h =
    record {
      tree = raw.f_disj (raw.d_conj (raw.j_star (raw.k_fatom h.tree)));
      meets = record { meets = h.meets.meets };
      given = h.given;
      comes = h.comes;
      same = h.same;
    }

pub any_formula : {r : Scope} {l : ℕ} {p : Printed} {v : Spoken r.text p} {told : FormulaTree} (form : Form)
    → FormulaRead r l p v told form
    → ReadsFormula r l p v told
any_formula an_atom h = formula_of_fatom _ h.natural
any_formula an_application h = h.natural
any_formula a_prefixed h = h.natural
any_formula an_operation h = h.natural
any_formula a_binding h = h.natural

formula_in_brackets : (r : Scope) {l : ℕ} {p : Printed} {told : FormulaTree} (v : Spoken r.text (in_brackets (deeper p)))
    → ReadsFormula r (suc l) p v.1.0 told
    → ReadsFatom r l (in_brackets (deeper p)) v told
unfolding grammar.term term_comes
formula_in_brackets r {l} v h =
    record {
      tree = raw.g_brackets v.0.token.from h.tree;
      meets = go (goes_sign_at r.text l OpenBracketSign v.0) (go (goes (deep h.meets)) (ends_sign r.text l CloseBracketSign v.1.1));
      given = h.given;
      comes = h.comes;
      same = h.same;
    }

pub fatom_at : {r : Scope} {p : Printed} {told : FormulaTree} (form : Form) (l : ℕ)
    → ((k : ℕ) (v : Spoken r.text p) → FormulaRead r k p v told form)
    → (v : Spoken r.text (formula_at form p))
    → ReadsFatom r l (formula_at form p) v told
unfolding needs_brackets
fatom_at an_atom l h v = (h l v).natural
fatom_at an_application l h v = formula_in_brackets _ v (h (suc l) v.1.0).natural
fatom_at a_prefixed l h v = formula_in_brackets _ v (h (suc l) v.1.0).natural
fatom_at an_operation l h v = formula_in_brackets _ v (h (suc l) v.1.0).natural
fatom_at a_binding l h v = formula_in_brackets _ v (h (suc l) v.1.0).natural
