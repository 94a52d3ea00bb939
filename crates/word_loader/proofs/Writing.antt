-- The fields of an instruction that is written from an array of its operands.
use Rattle.std.proofs.Common.{◌≡◌, ℕ, zero, suc, ◌+◌, ◌<◌, List, [], ◌∷◌, ◌++◌, length, get_or, take, refl, sym, ap, ◌∙◌, arith, append_assoc, append-nil}
use Rattle.std.specs.List.{flat_map}
use Rattle.word_loader_code.specs.declared.code.Instr.{Instr}
use Rattle.word_loader_code.specs.declared.code.Instr.TheVariants as instrs
use Rattle.word_loader_format.specs.declared.table.Operand.{Operand}
use Rattle.word_loader_format.specs.Numbers.{little_endian}
use Rattle.word_loader_format.specs.Table.{operands_of, width_of, opcode_of, numbers_of}
use Rattle.word_loader_format.specs.Layout.{field_bytes, operand_fields}
use Rattle.word_loader.specs.Parts.{padded}

fields_more : (ops : List Operand) (ns : List ℕ) (i : ℕ) (d : Operand)
    → i < length ops
    → i < length ns
    → flat_map field_bytes (operand_fields (take (suc i) ops) ns)
    ≡ flat_map field_bytes (operand_fields (take i ops) ns) ++ little_endian (width_of (get_or ops i d)) (get_or ns i 0)
fields_more [] ns i d h k = absurd (omega (arith, h))
fields_more (op ∷ ops) [] i d h k = absurd (omega (arith, k))
fields_more (op ∷ ops) (n ∷ ns) zero d h k = append-nil (little_endian (width_of op) n)
fields_more (op ∷ ops) (n ∷ ns) (suc i) d h k =
    ap (λ t. little_endian (width_of op) n ++ t) (fields_more ops ns i d (omega (arith, h)) (omega (arith, k)))
    ∙ sym (append_assoc (little_endian (width_of op) n) (flat_map field_bytes (operand_fields (take i ops) ns))
    (little_endian (width_of (get_or ops i d)) (get_or ns i 0)))

-- one more operand
pub put_more : (old out new : List ℕ) (ops : List Operand) (ns : List ℕ) (i : ℕ) (d : Operand) (w : ℕ)
    → i < length ops
    → i < length ns
    → out ≡ old ++ flat_map field_bytes (operand_fields (take i ops) ns)
    → w ≡ width_of (get_or ops i d)
    → new ≡ out ++ little_endian w (get_or ns i 0)
    → new ≡ old ++ flat_map field_bytes (operand_fields (take (i + 1) ops) ns)
put_more old out new ops ns i d w h k so_far width put =
    let front : List ℕ = flat_map field_bytes (operand_fields (take i ops) ns) in
    let e : suc i ≡ i + 1 = omega arith in
    put ∙ ap (λ t. t ++ little_endian w (get_or ns i 0)) so_far ∙ append_assoc old front (little_endian w (get_or ns i 0))
    ∙ ap (λ v. old ++ (front ++ little_endian v (get_or ns i 0))) width
    ∙ ap (λ t. old ++ t) (sym (fields_more ops ns i d h k) ∙ ap (λ j. flat_map field_bytes (operand_fields (take j ops) ns)) e)

pub operand_fields-padded : (i : Instr)
    → operand_fields (operands_of (opcode_of i)) (padded (numbers_of i)) ≡ operand_fields (operands_of (opcode_of i)) (numbers_of i)
operand_fields-padded (instrs.Const d v) = refl
operand_fields-padded (instrs.Mov d s n) = refl
operand_fields-padded (instrs.Op d o a b) = refl
operand_fields-padded (instrs.Sel d c a b n) = refl
operand_fields-padded (instrs.Alloc d s n) = refl
operand_fields-padded (instrs.Get d p n) = refl
operand_fields-padded (instrs.Set p s n) = refl
operand_fields-padded (instrs.Free p n) = refl
operand_fields-padded (instrs.Jump t) = refl
operand_fields-padded (instrs.Jz c t) = refl
operand_fields-padded (instrs.Call f a d) = refl
operand_fields-padded (instrs.Ret s) = refl
operand_fields-padded (instrs.Tail f a) = refl
