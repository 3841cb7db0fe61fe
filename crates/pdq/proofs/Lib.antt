pub mod Laning
