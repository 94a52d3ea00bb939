-- What a phrase comes to is formed, since the rules derive it.
use Rattle.std.proofs.Common.{[]}
use Rattle.theory_formed_typing.proofs.Typed.{formed_ty, formed_formula, given_formed, fit_formed}
use Rattle.theory_formed_obligations.proofs.Owed.{owed_formed_all}
use Rattle.theory_formed_items.proofs.Kept.{items_keep_formed}
use Rattle.theory_checking_derived.proofs.Derived.{what_comes_is_derived}
use Rattle.theory_checking_items.proofs.Items.{checked_items_derive}
use Rattle.theory_checking_formed.specs.Laws.{WhatComesIsFormed, CheckedItemsKeepFormed}

pub what_comes_is_formed : WhatComesIsFormed
what_comes_is_formed = record {
  types = λ env g known c at A R d. formed_ty env known (what_comes_is_derived.types env g at A R d) c;
  formulas = λ env g known c at F R d. formed_formula env known (what_comes_is_derived.formulas env g at F R d) c;
  given = λ env g known c m at M k d.
      let x = what_comes_is_derived.given env m g at M k d in
      let y = given_formed env known x c in
      record { ty = y.0; term = y.1; owed = owed_formed_all.given env g known c m M k.term k.ty k.owed x };
  fitting = λ env g known c m at M A k a d.
      let x = what_comes_is_derived.fitting env m g at M A k d in
      (fit_formed env known x c a, owed_formed_all.fitting env g known c m M k.term A k.owed a x);
  items = λ env g known c at item k d. owed_formed_all.items env g known c item k.added k.owed (checked_items_derive env g at item k d);
}

pub checked_items_keep_formed : CheckedItemsKeepFormed
checked_items_keep_formed env known at item c d = items_keep_formed.kept env item c.added c.owed known (checked_items_derive env [] at item c d)
