-- What is known of the line of each record.
use Prim.Native.Nat.{◌<◌, ◌≤◌, suc, ℕ}
use mathlib.Core.List.{List, [], ◌∷◌}
use mathlib.Core.Path.{◌≡◌, refl}
use native.Mathlib.Omega.{arith}
use lib.ListN.{get_or, length, length-map}
use Rattle.draft_forms.specs.declared.LineKind.{LineKind}
use Rattle.draft_forms.specs.declared.LineKind.TheVariants.{Edge, Face, Point, Shell}
use Rattle.draft_forms.specs.LineForms.{line_kind, line_values}
use Rattle.draft_parts.specs.Parts.{needed_words}
use Rattle.lines.specs.Lines.{signed}
use Rattle.lists.proofs.Count.{All}
use Rattle.pattern.specs.Contents.{Content}
use Rattle.draft_text.specs.TextPattern.{line_parts}
use Rattle.text_round_trip.proofs.Adds.{Few, edge_parts_lem, edge_of, edge_part, face_parts_lem, face_part, point_parts_lem, point_part, shell_parts_lem, shell_part}
use Rattle.text_round_trip.proofs.Lines.{Small, edge_line_lem, edge_words_lem, edge_words, face_line_lem, face_words_lem, face_word, face_words, marks, point_line_lem, point_words_lem, point_words, shell_line_lem, shell_words_lem, shell_words}
use Rattle.text_round_trip.proofs.Sentences.{Word, lined, sentence}
use Rattle.text_round_trip.proofs.Values.{edge_kind, edge_values, face_kind, face_values_lem, point_kind, point_values, shell_kind, shell_values}
use Rattle.text_round_trip.proofs.Weights.{edge_weight, face_weight, point_weight, shell_weight, weight}

-- the line of these words has the number k of its kind, and adds the part
pub record Says (ws : List (List ℕ)) (kind : LineKind) (k : ℕ) (part : Content) : Type 0 where
  -- the values after the number
  pub values : List ℕ
  pub are : All Word ws
  pub is : line_kind ws ≡ kind
  pub read : line_values ws ≡ k ∷ values
  pub all : length ws ≡ suc (suc (length values))
  pub needed : needed_words kind ≤ suc (length values)
  pub parts : line_parts ws ≡ part
  pub begins : get_or (get_or ws 0 []) 0 0 < 128
  pub long : length (lined (sentence ws)) ≤ weight part

pub point_says : (k label : ℕ) → k < 65536 → label < 4294967296 → Says (point_words k label) Point k (point_part label)
unfolding needed_words
point_says k label h l = record {
  values = 65536 ∷ label ∷ [];
  are = point_words_lem k label;
  is = point_kind k label;
  read = point_values k label (omega arith) l;
  all = refl;
  needed = omega arith;
  parts = point_parts_lem k label (omega arith) l;
  begins = omega arith;
  long = rw (point_line_lem k label) at (point_weight k label h l);
}

pub edge_says : (k front back t0 t1 : ℕ) → k < 65536 → Small front → Small back → t0 < 18446744073709551616 → t1 < 18446744073709551616
    → Says (edge_words k front back t0 t1) Edge k (edge_part (edge_of front back t0 t1))
unfolding needed_words
edge_says k front back t0 t1 h f b p q = record {
  values = 65536 ∷ front ∷ 65536 ∷ back ∷ 65536 ∷ t0 ∷ t1 ∷ [];
  are = edge_words_lem k front back t0 t1;
  is = edge_kind k front back t0 t1;
  read = edge_values k front back t0 t1 (omega arith) (omega arith) (omega arith) p q;
  all = refl;
  needed = omega arith;
  parts = edge_parts_lem k front back t0 t1 (omega arith) f b p q;
  begins = omega arith;
  long = rw (edge_line_lem k front back t0 t1) at (edge_weight k front back t0 t1 h f b);
}

pub face_says : (k surface : ℕ) (wires : List (List ℕ)) → k < 65536 → surface < 65536 → All (All Small) wires → Few wires → length wires < 65536
    → Says (face_words k surface wires) Face k (face_part surface wires)
unfolding needed_words
face_says k surface wires h s u f n = record {
  values = 65536 ∷ surface ∷ marks wires;
  are = face_words_lem k surface wires;
  is = face_kind k surface wires;
  read = face_values_lem k surface wires (omega arith) s u;
  all = omega (arith, length-map (marks wires) face_word);
  needed = omega arith;
  parts = face_parts_lem k surface wires (omega arith) s u f n;
  begins = omega arith;
  long = rw (face_line_lem k surface wires u) at (face_weight k surface wires h s);
}

pub shell_says : (k : ℕ) (listings : List ℕ) → k < 65536 → All Small listings → length listings < 65536 → Says (shell_words k listings) Shell k (shell_part listings)
unfolding needed_words
shell_says k listings h u n = record {
  values = 65536 ∷ listings;
  are = shell_words_lem k listings;
  is = shell_kind k listings;
  read = shell_values k listings (omega arith) u;
  all = omega (arith, length-map listings signed);
  needed = omega arith;
  parts = shell_parts_lem k listings (omega arith) u n;
  begins = omega arith;
  long = rw (shell_line_lem k listings) at (shell_weight k listings h);
}
