pub mod Origins
