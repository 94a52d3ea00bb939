-- The worked examples, by computing what the names stand for.
use Rattle.std.specs.Prelude.{ℕ, [], codes, Some}
use Rattle.std.proofs.Common.{refl}
use Rattle.htt_parser_trees.specs.declared.place.Binder.TheVariants as binders
use Rattle.theory_text_names.specs.Scopes.{Scope, a_term, under}
use Rattle.theory_text_names.specs.Uses.{a_variable, local_use, declared_use}
use Rattle.theory_text_alike.specs.Alike.{AlikeUse, AlikeName, both_unbound, same_variable, AlikeTerm, alike_t_fun, alike_t_rel, alike_r_sum, alike_s_sum}
use Rattle.theory_text_alike.specs.Alike.{alike_s_end, alike_x_prod, alike_x_end, alike_l_apply, alike_no_parts, alike_a_name}
use Rattle.theory_text_alike.specs.Examples.{sp, name_at, two_binders, WorkedAlike}

-- two variables of different indices aren't the same
apart : AlikeUse (Some (a_variable 1 a_term)) (Some (a_variable 0 a_term)) → ⊥
apart h = elim h [ ]

-- the name under both binders
name_of : {s s' : Scope} → AlikeTerm s s' (name_at 16) (name_at 16) → AlikeName s s' (sp 16 17) (sp 16 17)
name_of (alike_t_rel (alike_r_sum (alike_s_sum (alike_x_prod (alike_l_apply (alike_a_name p) alike_no_parts) alike_x_end) alike_s_end))) = p

inner_of : {s s' : Scope}
    → AlikeTerm s s' two_binders two_binders
    → AlikeTerm (under (under s (binders.Name (sp 4 5)) a_term) (binders.Name (sp 12 13)) a_term)
    (under (under s' (binders.Name (sp 4 5)) a_term) (binders.Name (sp 12 13)) a_term) (name_at 16) (name_at 16)
inner_of (alike_t_fun (alike_t_fun p)) = p

pub worked : WorkedAlike
unfolding local_use declared_use
worked = record {
  renamed =
      alike_t_fun (alike_t_fun (alike_t_rel
      (alike_r_sum (alike_s_sum (alike_x_prod (alike_l_apply (alike_a_name same_variable) alike_no_parts) alike_x_end) alike_s_end))));
  other_binder = λ h. apart (name_of (inner_of h));
  hidden = λ h. apart (name_of (inner_of h));
  unbound =
      alike_t_fun (alike_t_fun (alike_t_rel
      (alike_r_sum (alike_s_sum (alike_x_prod (alike_l_apply (alike_a_name both_unbound) alike_no_parts) alike_x_end) alike_s_end))));
}
