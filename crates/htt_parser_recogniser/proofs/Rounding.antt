-- What a round keeps and adds, and where it adds nothing.
use Rattle.std.proofs.Common.{◌≡◌, ℕ, suc, ◌+◌, ◌≤◌, ◌<◌, ◌⊎◌, inl, inr, List, [], ◌∷◌, ◌++◌, length, refl, sym, ap, subst, ◌∙◌, arith, length-append, get_or}
use Rattle.std.proofs.Common.{drop, drop-cons, add-one}
use Rattle.std.proofs.Math.ListN.{drop_of_length-le}
use Rattle.std.specs.Prelude.{Bool, true, false, if◌then◌else◌}
use Rattle.htt_lexer_tokens.specs.declared.tokens.Token.{Token}
use Rattle.htt_parser_table.specs.declared.symbols.Nonterminal.{Nonterminal}
use Rattle.htt_parser_recogniser.specs.declared.rows.Edge.{Edge}
use Rattle.htt_parser_recogniser.specs.Chart.{phrase_spans_of}
use Rattle.htt_parser_recogniser.specs.Rounds.{edge_of, Has, HasEach, IsEdge, IsSound, IsChart, Round, round_of}
use Rattle.htt_parser_recogniser.proofs.Lists.{decide, in_left, in_right, in_either}
use Rattle.htt_parser_recogniser.proofs.Deriving.{phrase_sound}

pub record After (tokens : List Token) (pending chart left : List Edge) (r : Round) : Type 0 where
  pub kept : (x : Edge) → Has chart x → Has r.chart x
  pub still_left : (x : Edge) → Has left x → Has r.left x
  pub covered : (x : Edge) → Has pending x → Has r.chart x ⊎ Has r.left x
  pub sound : IsSound tokens chart → IsSound tokens r.chart
  pub fewer : length r.left ≤ length left + length pending
  pub nothing_new : length r.left ≡ length left + length pending → (r.chart ≡ chart) × ((x : Edge) → Has pending x → phrase_spans_of tokens chart x ≡ false)

pub goes_in : (edge : Edge) (pending : List Edge) (tokens : List Token) (chart left : List Edge)
    → phrase_spans_of tokens chart edge ≡ true
    → round_of (edge ∷ pending) tokens chart left ≡ round_of pending tokens (chart ++ edge ∷ []) left
unfolding round_of
goes_in edge pending tokens chart left is =
    ap (λ b. if b then round_of pending tokens (chart ++ edge ∷ []) left else round_of pending tokens chart (left ++ edge ∷ [])) is

pub stays : (edge : Edge) (pending : List Edge) (tokens : List Token) (chart left : List Edge)
    → phrase_spans_of tokens chart edge ≡ false
    → round_of (edge ∷ pending) tokens chart left ≡ round_of pending tokens chart (left ++ edge ∷ [])
unfolding round_of
stays edge pending tokens chart left is =
    ap (λ b. if b then round_of pending tokens (chart ++ edge ∷ []) left else round_of pending tokens chart (left ++ edge ∷ [])) is

sound_with : (tokens : List Token) (chart : List Edge) (edge : Edge) → IsSound tokens chart → IsEdge tokens edge → IsSound tokens (chart ++ edge ∷ [])
sound_with tokens chart edge sound is x h = elim (in_either chart (edge ∷ []) x h) [
  | inl a ↦ sound x a
  | inr b ↦ elim b [ inl e ↦ subst (IsEdge tokens) e is | inr never ↦ absurd never ]
]

after_found : (tokens : List Token) (edge : Edge) (pending chart left : List Edge) (r : Round)
    → phrase_spans_of tokens chart edge ≡ true
    → After tokens pending (chart ++ edge ∷ []) left r
    → After tokens (edge ∷ pending) chart left r
after_found tokens edge pending chart left r is after = record {
  kept = λ x h. after.kept x (in_left chart (edge ∷ []) x h);
  still_left = after.still_left;
  covered = λ x h. elim h [ inl e ↦ inl (after.kept x (in_right chart (edge ∷ []) x (inl e))) | inr rest ↦ after.covered x rest ];
  sound = λ sound. after.sound (sound_with tokens chart edge sound (phrase_sound tokens chart sound edge is));
  fewer = let h = after.fewer in omega (arith, h);
  nothing_new = λ same. absurd (let h = after.fewer in omega (arith, h, same));
}

after_left : (tokens : List Token) (edge : Edge) (pending chart left : List Edge) (r : Round)
    → phrase_spans_of tokens chart edge ≡ false
    → After tokens pending chart (left ++ edge ∷ []) r
    → After tokens (edge ∷ pending) chart left r
after_left tokens edge pending chart left r is after =
    let longer : length (left ++ edge ∷ []) ≡ length left + 1 = length-append left (edge ∷ []) in
    record {
      kept = after.kept;
      still_left = λ x h. after.still_left x (in_left left (edge ∷ []) x h);
      covered = λ x h. elim h [ inl e ↦ inr (after.still_left x (in_right left (edge ∷ []) x (inl e))) | inr rest ↦ after.covered x rest ];
      sound = after.sound;
      fewer = let h = after.fewer in omega (arith, h, longer);
      nothing_new = λ same.
          let rest = after.nothing_new (omega (arith, same, longer)) in
          (rest.0, λ x h. elim h [ inl e ↦ subst (λ y. phrase_spans_of tokens chart y ≡ false) e is | inr later ↦ rest.1 x later ]);
    }

pub after_round : (pending : List Edge) (tokens : List Token) (chart left : List Edge) → After tokens pending chart left (round_of pending tokens chart left)
unfolding round_of
after_round [] tokens chart left = record {
  kept = λ x h. h;
  still_left = λ x h. h;
  covered = λ x h. absurd h;
  sound = λ sound. sound;
  fewer = omega arith;
  nothing_new = λ same. (refl, λ x h. absurd h);
}
after_round (edge ∷ pending) tokens chart left =
    elim (decide (phrase_spans_of tokens chart edge)) [
      | inl is ↦
          subst (After tokens (edge ∷ pending) chart left) (sym (goes_in edge pending tokens chart left is))
          (after_found tokens edge pending chart left _ is (after_round pending tokens (chart ++ edge ∷ []) left))
      | inr is ↦
          subst (After tokens (edge ∷ pending) chart left) (sym (stays edge pending tokens chart left is))
          (after_left tokens edge pending chart left _ is (after_round pending tokens chart (left ++ edge ∷ [])))
    ]

-- ---- round after round

-- the chart is sound, and what it may lack is pending
pub record Cover (tokens : List Token) (chart pending : List Edge) : Type 0 where
  pub sound : IsSound tokens chart
  pub covers : (n : Nonterminal) (i j : ℕ) → i ≤ j → j ≤ length tokens → Has chart (edge_of i j n) ⊎ Has pending (edge_of i j n)

pub first_cover : (tokens : List Token) (pending : List Edge) → HasEach tokens pending → Cover tokens [] pending
first_cover tokens pending each = record { sound = λ x h. absurd h; covers = λ n i j a b. inr (each n i j a b) }

pub next_cover : (tokens : List Token) (chart pending : List Edge)
    → Cover tokens chart pending
    → Cover tokens (round_of pending tokens chart []).chart (round_of pending tokens chart []).left
next_cover tokens chart pending cover =
    let after = after_round pending tokens chart [] in
    record {
      sound = after.sound cover.sound;
      covers = λ n i j a b. elim (cover.covers n i j a b) [ inl h ↦ inl (after.kept (edge_of i j n) h) | inr h ↦ after.covered (edge_of i j n) h ];
    }

not_both : (b : Bool) → b ≡ true → b ≡ false → ⊥
not_both b is not = absurd (let h : true ≡ false = sym is ∙ not in cc)

pub last_cover : (tokens : List Token) (chart pending : List Edge)
    → Cover tokens chart pending
    → length (round_of pending tokens chart []).left ≡ length pending
    → IsChart tokens (round_of pending tokens chart []).chart
last_cover tokens chart pending cover same =
    let after = after_round pending tokens chart [] in
    let nothing = after.nothing_new (omega (arith, same)) in
    subst (IsChart tokens) (sym nothing.0) (record {
      sound = cover.sound;
      closed = λ n i j a b spans. elim (cover.covers n i j a b) [
        | inl h ↦ h
        | inr h ↦ absurd (not_both (phrase_spans_of tokens chart (edge_of i j n)) spans (nothing.1 (edge_of i j n) h))
      ];
    })

pub no_more_left : (pending : List Edge) (tokens : List Token) (chart : List Edge) → length (round_of pending tokens chart []).left ≤ length pending
no_more_left pending tokens chart = let h = (after_round pending tokens chart []).fewer in omega (arith, h)

pub next_goes_in : (pending : List Edge) (i : ℕ) (d : Edge) (tokens : List Token) (chart left : List Edge)
    → i < length pending
    → phrase_spans_of tokens chart (get_or pending i d) ≡ true
    → round_of (drop (i + 1) pending) tokens (chart ++ get_or pending i d ∷ []) left ≡ round_of (drop i pending) tokens chart left
next_goes_in pending i d tokens chart left less is =
    ap (λ k. round_of (drop k pending) tokens (chart ++ get_or pending i d ∷ []) left) (add-one i)
    ∙ sym (ap (λ p. round_of p tokens chart left) (drop-cons pending i d less) ∙ goes_in (get_or pending i d) (drop (suc i) pending) tokens chart left is)

pub next_stays : (pending : List Edge) (i : ℕ) (d : Edge) (tokens : List Token) (chart left : List Edge)
    → i < length pending
    → phrase_spans_of tokens chart (get_or pending i d) ≡ false
    → round_of (drop (i + 1) pending) tokens chart (left ++ get_or pending i d ∷ []) ≡ round_of (drop i pending) tokens chart left
next_stays pending i d tokens chart left less is =
    ap (λ k. round_of (drop k pending) tokens chart (left ++ get_or pending i d ∷ [])) (add-one i)
    ∙ sym (ap (λ p. round_of p tokens chart left) (drop-cons pending i d less) ∙ stays (get_or pending i d) (drop (suc i) pending) tokens chart left is)

pub round_ends : (pending : List Edge) (i : ℕ) (tokens : List Token) (chart left : List Edge)
    → length pending ≤ i
    → round_of (drop i pending) tokens chart left ≡ record { chart = chart; left = left }
unfolding round_of
round_ends pending i tokens chart left past = ap (λ p. round_of p tokens chart left) (drop_of_length-le pending past)

-- the same, as the loop sees it
module _ (pending : List Edge) (i : ℕ) (d : Edge) (tokens : List Token) (chart left new_chart new_left read : List Edge) (whole : Round) (b : Bool) where
  spans_of_read : b ≡ phrase_spans_of tokens read (get_or pending i d) → read ≡ chart → phrase_spans_of tokens chart (get_or pending i d) ≡ b
  spans_of_read told same = sym (told ∙ ap (λ edges. phrase_spans_of tokens edges (get_or pending i d)) same)

  pub step_in : i < length pending
      → b ≡ phrase_spans_of tokens read (get_or pending i d)
      → read ≡ chart
      → b ≡ true
      → new_chart ≡ chart ++ get_or pending i d ∷ []
      → new_left ≡ left
      → round_of (drop i pending) tokens chart left ≡ whole
      → round_of (drop (i + 1) pending) tokens new_chart new_left ≡ whole
  step_in less told same is in_chart in_left' before =
      ap (λ edges. round_of (drop (i + 1) pending) tokens edges new_left) in_chart
      ∙ ap (λ edges. round_of (drop (i + 1) pending) tokens (chart ++ get_or pending i d ∷ []) edges) in_left'
      ∙ next_goes_in pending i d tokens chart left less (spans_of_read told same ∙ is) ∙ before

  pub step_stays : i < length pending
      → b ≡ phrase_spans_of tokens read (get_or pending i d)
      → read ≡ chart
      → b ≡ false
      → new_chart ≡ chart
      → new_left ≡ left ++ get_or pending i d ∷ []
      → round_of (drop i pending) tokens chart left ≡ whole
      → round_of (drop (i + 1) pending) tokens new_chart new_left ≡ whole
  step_stays less told same is in_chart in_left' before =
      ap (λ edges. round_of (drop (i + 1) pending) tokens edges new_left) in_chart
      ∙ ap (λ edges. round_of (drop (i + 1) pending) tokens chart edges) in_left'
      ∙ next_stays pending i d tokens chart left less (spans_of_read told same ∙ is) ∙ before
