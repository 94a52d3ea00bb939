-- The tree of a declaration.
use Rattle.std.specs.Prelude.{map}
use Rattle.htt_parser_trees.specs.declared.decl.RawDecl.{RawDecl}
use Rattle.htt_parser_trees.specs.declared.decl.RawDecl.TheVariants as decl
use Rattle.htt_parser_trees.specs.declared.decl.RawMonoParam.{RawMonoParam}
use Rattle.htt_parser_trees.specs.declared.decl.ProofBody.{ProofBody}
use Rattle.htt_parser_trees.specs.declared.decl.ProofBody.TheVariants as body
use Rattle.htt_parser_trees.specs.Trees.{RawMonoParamTree, mono_param, RawBodyTree, body_auto, body_proof, RawDeclTree}
use Rattle.htt_parser_trees.specs.Trees.{decl_type, decl_pred, decl_induct, decl_def, decl_val, decl_proof}
use Rattle.htt_parser_trees.specs.MonoLevels.{raw_mono_tree}
use Rattle.htt_parser_trees.specs.TreeViews.{raw_ty_tree, raw_term_tree, raw_formula_tree}
use Rattle.htt_parser_trees.specs.ProofLevels.{raw_proof_tree}

unfoldable pub raw_mono_param_tree : RawMonoParam → RawMonoParamTree
raw_mono_param_tree p = mono_param p.name (raw_mono_tree p.mono)

abbrev pub raw_body_tree : ProofBody → RawBodyTree
raw_body_tree (body.Auto at) = body_auto at
raw_body_tree (body.Proof p) = body_proof (raw_proof_tree p)

abbrev pub raw_decl_tree : RawDecl → RawDeclTree
raw_decl_tree (decl.Type x m) = decl_type x (raw_mono_tree m)
raw_decl_tree (decl.Pred x names params f) = decl_pred x names (map raw_mono_param_tree params) (raw_formula_tree f)
raw_decl_tree (decl.Induct x b params f g) =
    decl_induct x b (map raw_mono_param_tree params) (raw_formula_tree f) (raw_formula_tree g)
raw_decl_tree (decl.Def x a m) = decl_def x (raw_ty_tree a) (raw_term_tree m)
raw_decl_tree (decl.Val x a m) = decl_val x (raw_ty_tree a) (raw_term_tree m)
raw_decl_tree (decl.Proof at x n b) = decl_proof at x n (raw_body_tree b)
