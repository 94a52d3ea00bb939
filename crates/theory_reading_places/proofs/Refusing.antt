-- What begins no phrase is refused by each reader.
use Rattle.std.proofs.Common.{◌≡◌, ℕ, zero, suc, refl}
use Rattle.std.specs.Prelude.{true, false, None}
use Rattle.htt_lexer_tokens.specs.declared.tokens.Kind.{Kind}
use Rattle.htt_lexer_tokens.specs.declared.tokens.Kind.TheVariants.{Name, Number, Keyword, Sign}
use Rattle.htt_lexer_tokens.specs.declared.tokens.Keyword.TheVariants.{TypeWord, PredWord, DefWord, ValWord, ProofWord, FunWord, DoWord, FixWord, RetWord}
use Rattle.htt_lexer_tokens.specs.declared.tokens.Keyword.TheVariants.{TrueWord, FalseWord, NullWord, PlaceWord, FstWord, SndWord, NotWord, EqWord, SelWord}
use Rattle.htt_lexer_tokens.specs.declared.tokens.Keyword.TheVariants.{EmpWord, TtWord, FfWord, AllWord, ExWord, CapitalEmpWord, CellWord, BlockWord, JoinWord}
use Rattle.htt_lexer_tokens.specs.declared.tokens.Keyword.TheVariants.{SameWord, BothWord, LeftWord, RightWord, GiveWord, TrivialWord, ReflWord, AbsurdWord}
use Rattle.htt_lexer_tokens.specs.declared.tokens.Keyword.TheVariants.{CaseWord, RewriteWord, InductWord, SplitWord, FirstWord, SecondWord, AppWord, InstWord}
use Rattle.htt_lexer_tokens.specs.declared.tokens.Keyword.TheVariants.{AxiomWord, LemWord, TheWord}
use Rattle.htt_lexer_tokens.specs.declared.tokens.Sign.TheVariants.{OpenParenSign, OpenBracketSign, UnderscoreSign, AtSign, BangSign}
use Rattle.theory_grammar.specs.Readers.{same_kind}
use Rattle.theory_grammar.specs.Beginnings.{begins_binder, begins_atom, begins_appl, begins_term, begins_comp, begins_fatom, begins_formula, begins_arg}
use Rattle.theory_grammar.specs.Beginnings.{begins_stmt, begins_end, begins_proof, begins_decl}
use Rattle.theory_grammar.specs.Phrases.{Deeper, binder_case, a_binder, atom_case, atom_reader, unary_case, appl_reader, prod_reader, sum_reader, rel_reader}
use Rattle.theory_grammar.specs.Phrases.{term_case, term_reader, comp_on, comp_reader, fatom_case, fatom_reader, star_reader, conj_reader, disj_reader}
use Rattle.theory_grammar.specs.Phrases.{quantifier_case, formula_reader}
use Rattle.theory_grammar.specs.Reading.{arg_case, arg_reader, end_case, end_reader, proof_on, proof_reader, deeper, decl_case, decl_reader}
use Rattle.theory_grammar.proofs.Gets.{that_not, or_left, or_right}
use Rattle.theory_reading_places.proofs.Refuses.{Refuses, refuses_stop, refuses_refuse, refuses_then, refuses_either, refuses_wider, refuses_first}
use Rattle.theory_reading_places.proofs.Refuses.{refuses_measured}
use Rattle.theory_reading_places.proofs.Words.{Refused, mono_refuses}
use Rattle.theory_reading_places.proofs.Types.{ty_refuses}

no_binder : (k : Kind) → begins_binder k ≡ false → binder_case k ≡ None
no_binder Name h = absurd (let no : true ≡ false = h in cc)
no_binder (Sign UnderscoreSign) h = absurd (let no : true ≡ false = h in cc)
no_binder _ h = refl

no_atom : (d : Deeper) (k : Kind) → begins_atom k ≡ false → atom_case d k ≡ None
no_atom d Name h = absurd (let no : true ≡ false = h in cc)
no_atom d (Number n) h = absurd (let no : true ≡ false = h in cc)
no_atom d (Keyword TrueWord) h = absurd (let no : true ≡ false = h in cc)
no_atom d (Keyword FalseWord) h = absurd (let no : true ≡ false = h in cc)
no_atom d (Keyword NullWord) h = absurd (let no : true ≡ false = h in cc)
no_atom d (Keyword PlaceWord) h = absurd (let no : true ≡ false = h in cc)
no_atom d (Keyword EqWord) h = absurd (let no : true ≡ false = h in cc)
no_atom d (Keyword SelWord) h = absurd (let no : true ≡ false = h in cc)
no_atom d (Sign OpenParenSign) h = absurd (let no : true ≡ false = h in cc)
no_atom d _ h = refl

no_unary : (d : Deeper) (k : Kind) → begins_appl k ≡ false → unary_case d k ≡ None
no_unary d (Keyword FstWord) h = absurd (let no : true ≡ false = h in cc)
no_unary d (Keyword SndWord) h = absurd (let no : true ≡ false = h in cc)
no_unary d (Keyword NotWord) h = absurd (let no : true ≡ false = h in cc)
no_unary d _ h = refl

no_appl_no_atom : (k : Kind) → begins_appl k ≡ false → begins_atom k ≡ false
no_appl_no_atom (Keyword FstWord) h = absurd (let no : true ≡ false = h in cc)
no_appl_no_atom (Keyword SndWord) h = absurd (let no : true ≡ false = h in cc)
no_appl_no_atom (Keyword NotWord) h = absurd (let no : true ≡ false = h in cc)
no_appl_no_atom _ h = h

no_term : (d : Deeper) (k : Kind) → begins_term k ≡ false → term_case d k ≡ None
no_term d (Keyword FunWord) h = absurd (let no : true ≡ false = h in cc)
no_term d (Keyword DoWord) h = absurd (let no : true ≡ false = h in cc)
no_term d (Keyword FixWord) h = absurd (let no : true ≡ false = h in cc)
no_term d _ h = refl

no_term_no_appl : (k : Kind) → begins_term k ≡ false → begins_appl k ≡ false
no_term_no_appl (Keyword FunWord) h = absurd (let no : true ≡ false = h in cc)
no_term_no_appl (Keyword DoWord) h = absurd (let no : true ≡ false = h in cc)
no_term_no_appl (Keyword FixWord) h = absurd (let no : true ≡ false = h in cc)
no_term_no_appl _ h = h

no_ret : (k : Kind) → begins_comp k ≡ false → same_kind k (Keyword RetWord) ≡ false
no_ret (Keyword RetWord) h = absurd (let no : true ≡ false = h in cc)
no_ret _ h = refl

no_comp_no_binder : (k : Kind) → begins_comp k ≡ false → begins_binder k ≡ false
no_comp_no_binder (Keyword RetWord) h = absurd (let no : true ≡ false = h in cc)
no_comp_no_binder _ h = h

no_fatom : (d : Deeper) (k : Kind) → begins_fatom k ≡ false → fatom_case d k ≡ None
no_fatom d (Keyword TtWord) h = absurd (let no : true ≡ false = h in cc)
no_fatom d (Keyword FfWord) h = absurd (let no : true ≡ false = h in cc)
no_fatom d (Keyword EmpWord) h = absurd (let no : true ≡ false = h in cc)
no_fatom d (Keyword CapitalEmpWord) h = absurd (let no : true ≡ false = h in cc)
no_fatom d (Keyword SameWord) h = absurd (let no : true ≡ false = h in cc)
no_fatom d (Keyword JoinWord) h = absurd (let no : true ≡ false = h in cc)
no_fatom d (Keyword CellWord) h = absurd (let no : true ≡ false = h in cc)
no_fatom d (Keyword BlockWord) h = absurd (let no : true ≡ false = h in cc)
no_fatom d (Sign OpenBracketSign) h = absurd (let no : true ≡ false = h in cc)
no_fatom d (Sign AtSign) h = absurd (let no : true ≡ false = h in cc)
no_fatom d (Sign BangSign) h = absurd (let no : true ≡ false = h in cc)
no_fatom d _ h = refl

no_fatom_no_appl : (k : Kind) → begins_fatom k ≡ false → begins_appl k ≡ false
no_fatom_no_appl (Keyword TtWord) h = absurd (let no : true ≡ false = h in cc)
no_fatom_no_appl (Keyword FfWord) h = absurd (let no : true ≡ false = h in cc)
no_fatom_no_appl (Keyword EmpWord) h = absurd (let no : true ≡ false = h in cc)
no_fatom_no_appl (Keyword CapitalEmpWord) h = absurd (let no : true ≡ false = h in cc)
no_fatom_no_appl (Keyword SameWord) h = absurd (let no : true ≡ false = h in cc)
no_fatom_no_appl (Keyword JoinWord) h = absurd (let no : true ≡ false = h in cc)
no_fatom_no_appl (Keyword CellWord) h = absurd (let no : true ≡ false = h in cc)
no_fatom_no_appl (Keyword BlockWord) h = absurd (let no : true ≡ false = h in cc)
no_fatom_no_appl (Sign OpenBracketSign) h = absurd (let no : true ≡ false = h in cc)
no_fatom_no_appl (Sign AtSign) h = absurd (let no : true ≡ false = h in cc)
no_fatom_no_appl (Sign BangSign) h = absurd (let no : true ≡ false = h in cc)
no_fatom_no_appl _ h = h

no_quantifier : (d : Deeper) (k : Kind) → begins_formula k ≡ false → quantifier_case d k ≡ None
no_quantifier d (Keyword AllWord) h = absurd (let no : true ≡ false = h in cc)
no_quantifier d (Keyword ExWord) h = absurd (let no : true ≡ false = h in cc)
no_quantifier d _ h = refl

no_formula_no_fatom : (k : Kind) → begins_formula k ≡ false → begins_fatom k ≡ false
no_formula_no_fatom (Keyword AllWord) h = absurd (let no : true ≡ false = h in cc)
no_formula_no_fatom (Keyword ExWord) h = absurd (let no : true ≡ false = h in cc)
no_formula_no_fatom _ h = h

no_arg : (k : Kind) → begins_arg k ≡ false → arg_case k ≡ None
no_arg (Sign AtSign) h = absurd (let no : true ≡ false = h in cc)
no_arg _ h = refl

no_arg_no_term : (k : Kind) → begins_arg k ≡ false → begins_term k ≡ false
no_arg_no_term (Sign AtSign) h = absurd (let no : true ≡ false = h in cc)
no_arg_no_term _ h = h

no_end : (d : Deeper) (k : Kind) → begins_end k ≡ false → end_case d k ≡ None
no_end d Name h = absurd (let no : true ≡ false = h in cc)
no_end d (Keyword TrivialWord) h = absurd (let no : true ≡ false = h in cc)
no_end d (Keyword ReflWord) h = absurd (let no : true ≡ false = h in cc)
no_end d (Keyword FirstWord) h = absurd (let no : true ≡ false = h in cc)
no_end d (Keyword SecondWord) h = absurd (let no : true ≡ false = h in cc)
no_end d (Keyword LeftWord) h = absurd (let no : true ≡ false = h in cc)
no_end d (Keyword RightWord) h = absurd (let no : true ≡ false = h in cc)
no_end d (Keyword AbsurdWord) h = absurd (let no : true ≡ false = h in cc)
no_end d (Keyword BothWord) h = absurd (let no : true ≡ false = h in cc)
no_end d (Keyword GiveWord) h = absurd (let no : true ≡ false = h in cc)
no_end d (Keyword AppWord) h = absurd (let no : true ≡ false = h in cc)
no_end d (Keyword InstWord) h = absurd (let no : true ≡ false = h in cc)
no_end d (Keyword CaseWord) h = absurd (let no : true ≡ false = h in cc)
no_end d (Keyword RewriteWord) h = absurd (let no : true ≡ false = h in cc)
no_end d (Keyword InductWord) h = absurd (let no : true ≡ false = h in cc)
no_end d (Keyword SplitWord) h = absurd (let no : true ≡ false = h in cc)
no_end d (Keyword AxiomWord) h = absurd (let no : true ≡ false = h in cc)
no_end d (Keyword LemWord) h = absurd (let no : true ≡ false = h in cc)
no_end d (Keyword TheWord) h = absurd (let no : true ≡ false = h in cc)
no_end d _ h = refl

no_decl : (d : Deeper) (k : Kind) → begins_decl k ≡ false → decl_case d k ≡ None
no_decl d (Keyword TypeWord) h = absurd (let no : true ≡ false = h in cc)
no_decl d (Keyword PredWord) h = absurd (let no : true ≡ false = h in cc)
no_decl d (Keyword DefWord) h = absurd (let no : true ≡ false = h in cc)
no_decl d (Keyword ValWord) h = absurd (let no : true ≡ false = h in cc)
no_decl d (Keyword ProofWord) h = absurd (let no : true ≡ false = h in cc)
no_decl d _ h = refl

binder_refuses : Refuses begins_binder a_binder
unfolding a_binder
binder_refuses = refuses_either _ no_binder (refuses_stop _)

pub atom_refuses : (d : Deeper) → Refuses begins_atom (atom_reader d)
unfolding atom_reader
atom_refuses d = refuses_either _ (no_atom d) (refuses_stop _)

pub appl_refuses : (d : Deeper) → Refuses begins_appl (appl_reader d)
unfolding appl_reader
appl_refuses d = refuses_either _ (no_unary d) (refuses_then _ (refuses_wider no_appl_no_atom (atom_refuses d)))

pub prod_refuses : (d : Deeper) → Refuses begins_appl (prod_reader d)
unfolding prod_reader
prod_refuses d = refuses_then _ (appl_refuses d)

rel_refuses : (d : Deeper) → Refuses begins_appl (rel_reader d)
unfolding rel_reader sum_reader
rel_refuses d = refuses_then _ (refuses_then _ (prod_refuses d))

term_refuses : (d : Deeper) → Refuses begins_term (term_reader d)
unfolding term_reader
term_refuses d = refuses_either _ (no_term d) (refuses_then _ (refuses_wider no_term_no_appl (rel_refuses d)))

comp_on_refuses : (d : Deeper) (n : ℕ) → Refuses begins_comp (comp_on d n)
unfolding comp_on
comp_on_refuses d zero = refuses_stop _
comp_on_refuses d (suc n) =
    refuses_either _ (λ k h. that_not k (Keyword RetWord) _ (no_ret k h)) (refuses_then _ (refuses_wider no_comp_no_binder binder_refuses))

comp_refuses : (d : Deeper) → Refuses begins_comp (comp_reader d)
unfolding comp_reader
comp_refuses d = refuses_measured (comp_on_refuses d)

fatom_refuses : (d : Deeper) → Refuses begins_fatom (fatom_reader d)
unfolding fatom_reader
fatom_refuses d = refuses_either _ (no_fatom d) (refuses_then _ (refuses_wider no_fatom_no_appl (rel_refuses d)))

star_refuses : (d : Deeper) → Refuses begins_fatom (star_reader d)
unfolding star_reader
star_refuses d = refuses_then _ (fatom_refuses d)

conj_refuses : (d : Deeper) → Refuses begins_fatom (conj_reader d)
unfolding conj_reader
conj_refuses d = refuses_then _ (star_refuses d)

disj_refuses : (d : Deeper) → Refuses begins_fatom (disj_reader d)
unfolding disj_reader
disj_refuses d = refuses_then _ (conj_refuses d)

formula_refuses : (d : Deeper) → Refuses begins_formula (formula_reader d)
unfolding formula_reader
formula_refuses d = refuses_either _ (no_quantifier d) (refuses_then _ (refuses_wider no_formula_no_fatom (disj_refuses d)))

pub arg_refuses : (d : Deeper) → Refuses begins_term d.term → Refuses begins_arg (arg_reader d)
unfolding arg_reader
arg_refuses d term = refuses_either _ no_arg (refuses_then _ (refuses_wider no_arg_no_term term))

end_refuses : (d : Deeper) → Refuses begins_end (end_reader d)
unfolding end_reader
end_refuses d = refuses_either _ (no_end d) (refuses_stop _)

proof_on_refuses : (d : Deeper) (n : ℕ) → Refuses begins_proof (proof_on d n)
unfolding proof_on
proof_on_refuses d zero = refuses_stop _
proof_on_refuses d (suc n) =
    refuses_first _ _ (λ k h. or_left (begins_stmt k) (begins_end k) h)
    (refuses_then _ (refuses_wider (λ k h. or_right (begins_stmt k) (begins_end k) h) (end_refuses d)))

proof_refuses : (d : Deeper) → Refuses begins_proof (proof_reader d)
unfolding proof_reader
proof_refuses d = refuses_measured (proof_on_refuses d)

pub decl_refuses : (d : Deeper) → Refuses begins_decl (decl_reader d)
unfolding decl_reader
decl_refuses d = refuses_either _ (no_decl d) (refuses_stop _)

pub refused : (further n : ℕ) → Refused (deeper further n)
unfolding deeper
refused further zero = record {
  ty = refuses_refuse _ _;
  term = refuses_refuse _ _;
  comp = refuses_refuse _ _;
  formula = refuses_refuse _ _;
  disj = refuses_refuse _ _;
  conj = refuses_refuse _ _;
  star = refuses_refuse _ _;
  mono = refuses_refuse _ _;
  proof = refuses_refuse _ _;
}
refused further (suc n) =
    let d = deeper further n in
    record {
      ty = ty_refuses d;
      term = term_refuses d;
      comp = comp_refuses d;
      formula = formula_refuses d;
      disj = disj_refuses d;
      conj = conj_refuses d;
      star = star_refuses d;
      mono = mono_refuses d;
      proof = proof_refuses d;
    }
