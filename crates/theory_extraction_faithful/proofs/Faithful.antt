-- The code of a file does what the run of main's text does: it does what main's flat body does, and this what the text
-- does.
use Rattle.std.proofs.Common.{◌≡◌, ℕ, List, [], Some, refl, sym, ap, ◌∙◌, subst}
use Rattle.htt_syntax_words.specs.declared.words.Kind.{Kind}
use Rattle.theory_values.specs.Values.{Value, encoding}
use Rattle.theory_values.specs.Heaps.{Heap}
use Rattle.theory_meaning.specs.Closures.{RunValue, base, done}
use Rattle.theory_typing.specs.Laws.{none}
use Rattle.theory_items.specs.Items.{ItemTree}
use Rattle.theory_denotation.specs.Outcomes.{ended, asking, wrong}
use Rattle.word_loader_code.specs.declared.code.Code.{Code}
use Rattle.word_loader_code.specs.Machine.{machine_after, faulted}
use Rattle.theory_instances.specs.Calls.{ProgramVal}
use Rattle.theory_flat.specs.Flat.{Instance, HasFlatInstances}
use Rattle.theory_flat.specs.Reading.{flat_run}
use Rattle.theory_emission.specs.Codes.{first_code, code_of}
use Rattle.theory_emitted.specs.Laws.{CodeHalts, FlatEnds, NeverWrong, HasOutcomes}
use Rattle.theory_emitted.proofs.Main.{programs_emitted}
use Rattle.theory_extraction.specs.Extraction.{HasVals, program}
use Rattle.theory_extraction_formed.proofs.Files.{files_typed}
use Rattle.theory_extraction_faithful.specs.Laws.{text_run, TextEnds, TextFaults, NeverFaults, DoesAsText, ExtractionIsFaithful}
use Rattle.theory_extraction_faithful.proofs.Text.{flat_of_text, text_of_flat, result_is}

module _ (items : List ItemTree) (vals : List ProgramVal) (main : ℕ) (instances : List Instance) (d : HasVals none items vals)
    (has : HasFlatInstances (program vals (Some main)) instances) (code : Code) (h : Heap) (cs : List ℕ) (outcomes : HasOutcomes instances code h cs) where
  faults_too : (n : ℕ) × (flat_run instances n 0 [] h cs ≡ wrong) → TextFaults items main h cs
  faults_too flat = text_of_flat items vals main instances d has h cs wrong (λ q. cc) flat

  never_wrong : NeverFaults items main h cs → NeverWrong instances h cs
  never_wrong safe n q = let f = faults_too (n, q) in safe (f.0) (f.1)

  text_ends : (words : List ℕ) (k : Heap) → FlatEnds instances h cs words k → TextEnds items main h cs words k
  text_ends words k (n, v, left, flat, is) =
      let t = text_of_flat items vals main instances d has h cs (ended v k left) (λ q. cc) (n, flat) in (t.0, v, left, t.1, is)

  flat_ends : (words : List ℕ) (k : Heap) → TextEnds items main h cs words k → FlatEnds instances h cs words k
  flat_ends words k (fuel, v, left, text, is) =
      let f = flat_of_text items vals main instances d has h cs (ended v k left) (λ q. cc) (fuel, text) in (f.0, v, left, f.1, is)

  ends_so : (fuel : ℕ) (result : RunValue) (k : Heap) (left : List ℕ)
      → text_run items main h cs fuel ≡ done result k left
      → (v : Value) × (result ≡ base v) × CodeHalts code h cs (encoding v) k
  ends_so fuel result k left text =
      let r = result_is items vals main instances d has h cs fuel result k left text in (
        r.0,
        r.1,
        outcomes.ends (encoding (r.0)) k
            (flat_ends (encoding (r.0)) k (fuel, r.0, left, text ∙ ap (λ u. done u k left) (r.1), refl)),
      )

  faults_so : (steps : ℕ) (kind : Kind) (l : ℕ) → machine_after code h cs steps ≡ faulted kind l → TextFaults items main h cs
  faults_so steps kind l q = faults_too (steps, outcomes.faults steps kind l q)

  pub does_as_text : DoesAsText items main code h cs
  does_as_text = record {
    never = λ safe steps kind l q. let f = faults_so steps kind l q in safe (f.0) (f.1);
    halts = λ safe words k. (
      (λ halts. text_ends words k ((outcomes.halts (never_wrong safe) words k).0 halts)),
      (λ ends. outcomes.ends words k (flat_ends words k ends)),
    );
    asks = λ safe. (
      (λ asks. text_of_flat items vals main instances d has h cs asking (λ q. cc) ((outcomes.asks (never_wrong safe)).0 asks)),
      (λ text. outcomes.flat_asks (flat_of_text items vals main instances d has h cs asking (λ q. cc) text)),
    );
    ends = ends_so;
    faults = faults_so;
  }

pub faithful : ExtractionIsFaithful
faithful = record {
  code = λ items main code c h cs.
      let p = program c.vals (Some main) in
      let typed = files_typed items c.vals (Some main) c.instances c.has_vals c.has_instances in
      subst (λ (x : Code). DoesAsText items main x h cs) (sym c.is)
      (does_as_text items c.vals main c.instances c.has_vals c.has_instances (code_of c.instances) h cs
      (programs_emitted.second p c.instances h cs c.has_instances typed));
  first = λ items vals main instances d has h cs.
      let p = program vals (Some main) in
      let typed = files_typed items vals (Some main) instances d has in
      does_as_text items vals main instances d has (first_code instances) h cs (programs_emitted.first p instances h cs has typed);
}
