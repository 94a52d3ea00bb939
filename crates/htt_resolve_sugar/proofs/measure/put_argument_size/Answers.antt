use Rattle.std.proofs.Common.{refl, sym, ap, ◌∙◌, subst}
use Rattle.htt_syntax.specs.Views.{mono_tree}
use Rattle.htt_syntax_measure.specs.Measures.{node_of_two}
use Rattle.theory_text_sugar.specs.Putting.{putting}
use Rattle.htt_resolve_sugar.specs.Views.{Measures}
use Rattle.htt_resolve_sugar.proofs.Measured.{put_more}
use Rattle.htt_resolve_sugar.proofs.measure.put_argument_size.Goals as goal

pub returns : goal.returns
returns c = record {
  put = λ put M h f.
      put_more c.args.puts.now.items c.push.new.self.items put M (mono_tree c.args.param.now) c.node_of_two.result c.args.argument
      c.measure_mono-mono.result c.in_ok-push.ensures.items h f
      (c.measure_mono-mono.ensures.sized (putting put) 0 (put, subst (λ xs. Measures xs put) (sym c.as_slice.ensures.value) h, refl) refl)
      (c.node_of_two.ensures ∙ ap (node_of_two c.args.argument) c.under_node.ensures);
}
