-- What a phrase or an item comes to is canonical, since the rules derive it.
use Rattle.std.proofs.Common.{[]}
use Rattle.theory_typing_canonical.proofs.Typed.{formed_ty, formed_formula, given, fitted, body}
use Rattle.theory_checking_derived.proofs.Derived.{what_comes_is_derived}
use Rattle.theory_items.proofs.Derived.{items_keep_canonical}
use Rattle.theory_checking_items.proofs.Items.{checked_items_derive}
use Rattle.theory_checking_canonical.specs.Laws.{WhatComesIsCanonical, CheckedItemsKeepCanonical}

pub what_comes_is_canonical : WhatComesIsCanonical
what_comes_is_canonical = record {
  types = λ env g known c at A R d. formed_ty env known c (what_comes_is_derived.types env g at A R d);
  formulas = λ env g known c at F R d. formed_formula env known c (what_comes_is_derived.formulas env g at F R d);
  given = λ env g known c m at M k d.
      let x = given env known c (what_comes_is_derived.given env m g at M k d) in record { ty = x.ty; term = x.term; owed = x.all };
  fitting = λ env g known c m at M A k a d. let x = fitted env known c a (what_comes_is_derived.fitting env m g at M A k d) in (x.term, x.all);
  bodies = λ env g known c at spec E k a d.
      let x = body env known c a (what_comes_is_derived.bodies env g at spec E k d) in record { comp = x.0; owed = x.1 };
}

pub checked_items_keep_canonical : CheckedItemsKeepCanonical
checked_items_keep_canonical = record {
  environment = λ env known at item c d. items_keep_canonical.environment env item c.added c.owed known (checked_items_derive env [] at item c d);
  owed = λ env g known k at item c d. items_keep_canonical.owed env g item c.added c.owed known k (checked_items_derive env g at item c d);
}
