-- Lists that are read by a loop: what was read so far stands before what the rest of the list gives.
use Rattle.std.proofs.Common.{◌≡◌, ℕ, suc, ◌+◌, ◌-◌, ◌<◌, ◌≤◌, List, [], ◌∷◌, ◌++◌, drop, refl, ap, sym, ◌∙◌, subst, arith}
use Rattle.std.specs.Prelude.{Result, Ok, Err, map, Option, Some, None}
use Rattle.htt_lexer_tokens.specs.declared.tokens.Token.{Token}
use Rattle.htt_parser_trees.specs.Trees.{onto}
use Rattle.theory_grammar.specs.Readers.{Reader, Halt, give, then_read}
use Rattle.htt_parser_words.specs.declared.cursor.Halted.{Halted}
use Rattle.htt_parser_words.specs.declared.cursor.Halted.TheVariants as halts
use Rattle.htt_parser_words.specs.Results.{StopsAs, GivesMore, mapped}

onto_last : {X T : Type 0} (put : X → T → T) (xs : List X) (x : X) (rest : T) → onto put (xs ++ x ∷ []) rest ≡ onto put xs (put x rest)
onto_last put [] x rest = refl
onto_last put (y ∷ xs) x rest = ap (put y) (onto_last put xs x rest)

pub onto_map : {X Y : Type 0} (view : X → Y) (xs : List X) → onto (λ x ys. view x ∷ ys) xs [] ≡ map view xs
onto_map view [] = refl
onto_map view (x ∷ xs) = ap (λ ys. view x ∷ ys) (onto_map view xs)

put_last : {X T : Type 0} (put : X → T → T) (xs : List X) (x : X) (o : Result (T × List Token) Halt)
    → mapped (onto put xs) (mapped (put x) o) ≡ mapped (onto put (xs ++ x ∷ [])) o
unfolding give
put_last put xs x (Ok read) = ap (λ t. Ok (t, read.1)) (sym (onto_last put xs x read.0))
put_last put xs x (Err halt) = refl

-- where a list begins
pub loop_first : {T : Type 0} (told : Result (T × List Token) Halt) → told ≡ mapped (λ t. t) told
unfolding give
loop_first (Ok read) = refl
loop_first (Err halt) = refl

-- where nothing was read yet
pub loop_empty : {X T : Type 0} (put : X → T → T) (xs : List X) (told : Result (T × List Token) Halt) → xs ≡ [] → told ≡ mapped (onto put xs) told
loop_empty put xs told none = loop_first told ∙ ap (λ ys. mapped (onto put ys) told) (sym none)

-- one member more
pub loop_more : {X T : Type 0} (ts : List Token) (put : X → T → T) (nothing : T) (next : ℕ → Reader T) (told : Result (T × List Token) Halt)
    (xs items : List X) (r : Option (X × ℕ)) (x : X) (end counter at after_at : ℕ)
    → counter < end
    → told ≡ mapped (onto put xs) (next (end - counter) (drop at ts))
    → ((n : ℕ) → GivesMore ts put nothing (Ok r) (next (suc n)) (next n) at)
    → r ≡ Some (x, after_at)
    → items ≡ xs ++ x ∷ []
    → told ≡ mapped (onto put items) (next (end - (counter + 1)) (drop after_at ts))
loop_more ts put nothing next told xs items r x end counter at after_at below so_far more some is =
    let left : end - counter ≡ suc (end - (counter + 1)) = omega (arith, below) in
    let n = end - (counter + 1) in
    let one : next (suc n) (drop at ts) ≡ mapped (put x) (next n (drop after_at ts)) =
    subst (λ (q : Option _). GivesMore ts put nothing (Ok q) (next (suc n)) (next n) at) some (more n) in
    so_far
    ∙ ap (λ m. mapped (onto put xs) (next m (drop at ts))) left
    ∙ ap (mapped (onto put xs)) one
    ∙ put_last put xs x (next n (drop after_at ts))
    ∙ ap (λ ys. mapped (onto put ys) (next n (drop after_at ts))) (sym is)

-- no member more
pub loop_ends : {X T : Type 0} (ts : List Token) (put : X → T → T) (nothing : T) (next : ℕ → Reader T) (told : Result (T × List Token) Halt)
    (xs : List X) (r : Option (X × ℕ)) (end counter at : ℕ)
    → counter < end
    → told ≡ mapped (onto put xs) (next (end - counter) (drop at ts))
    → ((n : ℕ) → GivesMore ts put nothing (Ok r) (next (suc n)) (next n) at)
    → r ≡ None
    → told ≡ Ok (onto put xs nothing, drop at ts)
unfolding give
loop_ends ts put nothing next told xs r end counter at below so_far more none =
    let left : end - counter ≡ suc (end - suc counter) = omega (arith, below) in
    let n = end - suc counter in
    let last : next (suc n) (drop at ts) ≡ Ok (nothing, drop at ts) =
    subst (λ (q : Option _). GivesMore ts put nothing (Ok q) (next (suc n)) (next n) at) none (more n) in
    so_far ∙ ap (λ m. mapped (onto put xs) (next m (drop at ts))) left ∙ ap (mapped (onto put xs)) last

-- no token more
pub loop_is_over : {X T : Type 0} (ts : List Token) (put : X → T → T) (nothing : T) (next : ℕ → Reader T)
    (told : Result (T × List Token) Halt) (xs : List X) (end counter at : ℕ)
    → end ≤ counter
    → told ≡ mapped (onto put xs) (next (end - counter) (drop at ts))
    → next 0 (drop at ts) ≡ Ok (nothing, drop at ts)
    → told ≡ Ok (onto put xs nothing, drop at ts)
unfolding give
loop_is_over ts put nothing next told xs end counter at over so_far last =
    let none : end - counter ≡ 0 = omega (arith, over) in
    so_far ∙ ap (λ m. mapped (onto put xs) (next m (drop at ts))) none ∙ ap (mapped (onto put xs)) last

-- a member stops
pub loop_stops : {X T : Type 0} (ts : List Token) (e : Halted) (put : X → T → T) (xs : List X) (next : ℕ → Reader T) (at : ℕ)
    (told : Result (T × List Token) Halt) (end counter : ℕ)
    → counter < end
    → told ≡ mapped (onto put xs) (next (end - counter) (drop at ts))
    → ((n : ℕ) → StopsAs ts e (next (suc n) (drop at ts)))
    → StopsAs ts e told
unfolding give
loop_stops ts halts.NoMemory put xs next i told end counter below so_far h = tt
loop_stops ts (halts.At reason at) put xs next i told end counter below so_far h =
    let left : end - counter ≡ suc (end - suc counter) = omega (arith, below) in
    so_far ∙ ap (λ m. mapped (onto put xs) (next m (drop i ts))) left ∙ ap (mapped (onto put xs)) (h (end - suc counter))

-- ---- chains, whose members take room

pub chain_more : {X T : Type 0} (ts : List Token) (put : X → T → T) (nothing : T) (next : ℕ → Reader T)
    (told : Result (T × List Token) Halt) (xs items : List X) (r : Option (X × ℕ)) (x : X) (room at after_at : ℕ)
    → told ≡ mapped (onto put xs) (next room (drop at ts))
    → GivesMore ts put nothing (Ok r) (next room) (next (room - 1)) at
    → r ≡ Some (x, after_at)
    → items ≡ xs ++ x ∷ []
    → told ≡ mapped (onto put items) (next (room - 1) (drop after_at ts))
chain_more ts put nothing next told xs items r x room at after_at so_far more some is =
    let one : next room (drop at ts) ≡ mapped (put x) (next (room - 1) (drop after_at ts)) =
    subst (λ (q : Option _). GivesMore ts put nothing (Ok q) (next room) (next (room - 1)) at) some more in
    so_far
    ∙ ap (mapped (onto put xs)) one
    ∙ put_last put xs x (next (room - 1) (drop after_at ts))
    ∙ ap (λ ys. mapped (onto put ys) (next (room - 1) (drop after_at ts))) (sym is)

pub chain_ends : {X T : Type 0} (ts : List Token) (put : X → T → T) (nothing : T) (next : ℕ → Reader T)
    (told : Result (T × List Token) Halt) (xs : List X) (r : Option (X × ℕ)) (room at : ℕ)
    → told ≡ mapped (onto put xs) (next room (drop at ts))
    → GivesMore ts put nothing (Ok r) (next room) (next (room - 1)) at
    → r ≡ None
    → told ≡ Ok (onto put xs nothing, drop at ts)
unfolding give
chain_ends ts put nothing next told xs r room at so_far more none =
    let last : next room (drop at ts) ≡ Ok (nothing, drop at ts) =
    subst (λ (q : Option _). GivesMore ts put nothing (Ok q) (next room) (next (room - 1)) at) none more in
    so_far ∙ ap (mapped (onto put xs)) last

pub chain_stops : {X T : Type 0} (ts : List Token) (e : Halted) (put : X → T → T) (xs : List X) (o told : Result (T × List Token) Halt)
    → told ≡ mapped (onto put xs) o
    → StopsAs ts e o
    → StopsAs ts e told
unfolding give
chain_stops ts halts.NoMemory put xs o told so_far h = tt
chain_stops ts (halts.At reason at) put xs o told so_far h = so_far ∙ ap (mapped (onto put xs)) h

-- ---- lists whose last part is read in another way

-- one member more, of a list with an end
pub loop_next : {X T : Type 0} (put : X → T → T) (next : ℕ → Reader T) (told : Result (T × List Token) Halt) (xs items : List X) (x : X)
    (end counter : ℕ) (us vs : List Token)
    → counter < end
    → told ≡ mapped (onto put xs) (next (end - counter) us)
    → ((n : ℕ) → next (suc n) us ≡ mapped (put x) (next n vs))
    → items ≡ xs ++ x ∷ []
    → told ≡ mapped (onto put items) (next (end - (counter + 1)) vs)
loop_next put next told xs items x end counter us vs below so_far more is =
    let left : end - counter ≡ suc (end - (counter + 1)) = omega (arith, below) in
    let n = end - (counter + 1) in
    so_far
    ∙ ap (λ m. mapped (onto put xs) (next m us)) left
    ∙ ap (mapped (onto put xs)) (more n)
    ∙ put_last put xs x (next n vs)
    ∙ ap (λ ys. mapped (onto put ys) (next n vs)) (sym is)

-- the end is read
pub loop_returns : {X T : Type 0} (put : X → T → T) (next : ℕ → Reader T) (told : Result (T × List Token) Halt) (xs : List X) (last : T)
    (end counter : ℕ) (us vs : List Token)
    → counter < end
    → told ≡ mapped (onto put xs) (next (end - counter) us)
    → ((n : ℕ) → next (suc n) us ≡ Ok (last, vs))
    → told ≡ Ok (onto put xs last, vs)
unfolding give
loop_returns put next told xs last end counter us vs below so_far ends =
    let left : end - counter ≡ suc (end - suc counter) = omega (arith, below) in
    so_far ∙ ap (λ m. mapped (onto put xs) (next m us)) left ∙ ap (mapped (onto put xs)) (ends (end - suc counter))

-- no token is left for the end
pub loop_lacks : {X T : Type 0} (put : X → T → T) (next : ℕ → Reader T) (told : Result (T × List Token) Halt) (xs : List X) (halt : Halt)
    (end counter : ℕ) (us : List Token)
    → end ≤ counter
    → told ≡ mapped (onto put xs) (next (end - counter) us)
    → next 0 us ≡ Err halt
    → told ≡ Err halt
unfolding give
loop_lacks put next told xs halt end counter us over so_far stops =
    let none : end - counter ≡ 0 = omega (arith, over) in
    so_far ∙ ap (λ m. mapped (onto put xs) (next m us)) none ∙ ap (mapped (onto put xs)) stops

-- what goes on with a list that is made of what was read
pub bind_mapped : {A B C : Type 0} (make : A → B) (k : B → Reader C) (o : Result (A × List Token) Halt)
    → then_read o (λ x. k (make x)) ≡ then_read (mapped make o) k
unfolding give
bind_mapped make k (Ok read) = refl
bind_mapped make k (Err halt) = refl
