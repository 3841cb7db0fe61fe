use Rattle.std.proofs.Common.{◌≡◌, ◌+◌, ◌++◌, ◌∷◌, ◌∙◌, [], List, ℕ, ap, sym, length, take, append_assoc, rules}
use Rattle.std.proofs.lemmas.List.{take_more}
use Rattle.csv.specs.Records.{cut_from}
use Rattle.source_trait.proofs.RequestLogs.{front_stays, packed_more}
use Rattle.source_trait.proofs.packed_texts.add_texts.Goals as goal

pub loop-text-preserved : goal.loop-text-preserved
loop-text-preserved c =
    let texts = c.args.texts.now in
    let i = c.loop-text.text-index in
    let there = cut_from 0 c.args.ends.now.items c.args.bytes.now.items in
    let text = c.as_bytes.result.now in
    let bytes : c.extend_from_slice.new.self.items ≡ c.loop-text.bytes.items ++ text = c.in_ok-extend_from_slice.ensures.items in
    let size : c.len.result ≡ length (c.loop-text.bytes.items ++ text) = c.len.ensures ∙ c.extend_from_slice.new.self.ok.0 ∙ ap length bytes in
    let ends : c.push.new.self.items ≡ c.loop-text.ends.items ++ length (c.loop-text.bytes.items ++ text) ∷ [] = c.in_ok-push.ensures.items ∙ ap (λ n. c.loop-text.ends.items ++ n ∷ []) size in
    let more : take (i + 1) texts ≡ take i texts ++ text ∷ [] = search (rules, take_more) in
    let all : there ++ take (i + 1) texts ≡ there ++ take i texts ++ text ∷ [] = ap (λ (l : List (List ℕ)). there ++ l) more ∙ sym (append_assoc there (take i texts) (text ∷ [])) in
    record {
      packed = rw (ends, bytes, all) (packed_more c.loop-text.ends.items c.loop-text.bytes.items text (there ++ take i texts) c.loop-text.invariant.packed c.as_bytes.ensures.utf8);
      bytes = rw bytes (front_stays c.args.bytes.now.items c.loop-text.bytes.items text c.loop-text.invariant.bytes);
      ends = rw ends (front_stays c.args.ends.now.items c.loop-text.ends.items (length (c.loop-text.bytes.items ++ text) ∷ []) c.loop-text.invariant.ends);
    }
