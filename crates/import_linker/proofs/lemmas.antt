pub mod linked_names
